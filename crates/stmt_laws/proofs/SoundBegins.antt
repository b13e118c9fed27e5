-- The moves where a statement begins carry what stands behind them: values, branches and loops.
use Rattle.std.proofs.Common.{ℕ, true, false, List, [], ◌∷◌, ◌++◌, Some, None}
use Rattle.std.specs.Prelude.{if◌then◌else◌}
use Rattle.php_syntax.specs.declared.token.Sign.TheVariants as sign
use Rattle.script_grammar.specs.declared.keyword.Keyword.TheVariants as word
use Rattle.script_grammar.specs.Terminals.{Terminal, variable_terminal, word_terminal, sign_terminal}
use Rattle.script_grammar.specs.Expressions.{ExprForm, expr_terminals}
use Rattle.script_grammar.specs.Statements.{condition_terminals, value_form, key_value_form}
use Rattle.expr_machine.specs.Postfix.{expr_actions}
use Rattle.expr_machine.specs.Reading.{expr_at}
use Rattle.stmt_machine.specs.declared.frame.Loop.{Loop}
use Rattle.stmt_machine.specs.declared.frame.Loop.TheVariants as loop
use Rattle.stmt_machine.specs.declared.frame.Row.{Row}
use Rattle.stmt_machine.specs.declared.frame.Focus.TheVariants as focus
use Rattle.stmt_machine.specs.declared.frame.Frame.{Frame}
use Rattle.stmt_machine.specs.declared.frame.Frame.TheVariants as frame
use Rattle.stmt_machine.specs.Actions.{StmtAction, value_action, open_action, run_action, return_action, exit_action}
use Rattle.stmt_machine.specs.Machine.{moves, stuck, statement_at, condition_at, value_move, listed_move, if_move, body_move, while_move, each_move, foreach_move, behind_paren, foreach_begin_move, for_begin_move, jump_move, return_move, argument_at, exit_parens_move, exit_move}
use Rattle.stmt_machine.specs.Postfix.{value_actions}
use Rattle.stmt_laws.proofs.Shapes.{Rest}
use Rattle.stmt_laws.proofs.Stands.{Begun, LoopBody, Later, Stands, Carries}
use Rattle.stmt_laws.proofs.Built.{run_begun, if_begun, colon_if_begun, while_begun, stmt_body_read, colon_body_read, return_begun, return_value_begun, exit_begun, exit_parens_begun, exit_value_begun}
use Rattle.stmt_laws.proofs.SoundBranches.{branch}
use Rattle.stmt_laws.proofs.SoundRows.{for_begun, each_begun}
use Rattle.stmt_laws.proofs.Cases.{ExprSound, expr_case, statement_case, condition_case, argument_case, semicolon_case, colon_case, paren_case}

pub value_carries : ExprSound → (a : StmtAction) (fs : List Frame) (P : Rest) → ((e : ExprForm) (r : List Terminal) (bs : List StmtAction) → Later fs r bs → P (expr_terminals e (sign_terminal sign.Semicolon ∷ r)) (value_actions e (a ∷ bs)))
    → (ts : List Terminal) → Carries (value_move a fs (statement_at ts)) (P ts)
value_carries sound a fs P h ts = statement_case sound (λ o us. Carries (value_move a fs o) (P us)) (λ us. tt) (λ e r bs g. h e r bs g) ts

pub run_carries : ExprSound → (fs : List Frame) (ts : List Terminal) → Carries (value_move run_action fs (statement_at ts)) (Begun (Later fs) ts)
run_carries sound fs ts = value_carries sound run_action fs (λ us bs. Begun (Later fs) us bs) (λ e r bs g. run_begun e r bs g) ts

pub listed_carries : ExprSound → (l : Row) (n : ℕ) (fs : List Frame) (P : Rest) → ((e : ExprForm) (r : List Terminal) (bs : List StmtAction) → Stands (focus.Listed l n) fs r bs → P (expr_terminals e r) (value_actions e bs))
    → (ts : List Terminal) → Carries (listed_move l n fs (expr_at ts)) (P ts)
listed_carries sound l n fs P h ts = expr_case sound (λ o us. Carries (listed_move l n fs o) (P us)) (λ us. tt) (λ e r bs g. h e r bs g) ts

pub if_carries : ExprSound → (fs : List Frame) (ts : List Terminal) → Carries (if_move fs (condition_at ts)) (Begun (Later fs) (word_terminal word.If ∷ ts))
if_carries sound fs ts =
    condition_case sound (λ o us. Carries (if_move fs o) (Begun (Later fs) (word_terminal word.If ∷ us))) (λ us. tt)
    (λ e r. colon_case
    (λ b left us. Carries
    (if b then moves focus.Behind (frame.ColonArm 1 ∷ fs) left (value_action (expr_actions e []) ∷ open_action false ∷ [])
    else moves focus.Begin (frame.Arm 1 ∷ fs) us (value_action (expr_actions e []) ∷ open_action false ∷ []))
    (Begun (Later fs) (word_terminal word.If ∷ condition_terminals e us)))
    (λ left bs g. colon_if_begun e g)
    (λ us bs g. if_begun e (branch 1 g))
    r)
    ts

pub body_carries : (l : Loop) (fs : List Frame) (before : List StmtAction → List StmtAction) (P : Rest)
    → ((us : List Terminal) (bs : List StmtAction) → LoopBody l (Later fs) us (open_action true ∷ bs) → P us (before (open_action true ∷ []) ++ bs))
    → (ts : List Terminal) → Carries (body_move l fs ts before) (P ts)
body_carries l fs before P h ts =
    colon_case
    (λ b left us. Carries
    (if b then moves focus.Behind (frame.ColonBody l ∷ fs) left (before (open_action true ∷ []))
    else moves focus.Begin (frame.Body l ∷ fs) us (before (open_action true ∷ [])))
    (P us))
    (λ left bs g. h (sign_terminal sign.Colon ∷ left) bs (colon_body_read l g))
    (λ us bs g. h us bs (stmt_body_read l g))
    ts

pub while_carries : ExprSound → (fs : List Frame) (ts : List Terminal) → Carries (while_move fs (condition_at ts)) (Begun (Later fs) (word_terminal word.While ∷ ts))
while_carries sound fs ts =
    condition_case sound (λ o us. Carries (while_move fs o) (Begun (Later fs) (word_terminal word.While ∷ us))) (λ us. tt)
    (λ e r. body_carries loop.While fs (λ acts. value_action (expr_actions e []) ∷ acts) (λ us bs. Begun (Later fs) (word_terminal word.While ∷ condition_terminals e us) bs) (λ us bs g. while_begun e g) r)
    ts

each_carries : (e : ExprForm) (fs : List Frame) (ts : List Terminal) → Carries (each_move (expr_actions e []) fs ts) (Begun (Later fs) (word_terminal word.Foreach ∷ sign_terminal sign.OpenParen ∷ expr_terminals e ts))
each_carries e fs (word_terminal word.As ∷ variable_terminal x ∷ sign_terminal sign.CloseParen ∷ r) =
    body_carries (loop.Each None x) fs (λ more. value_action (expr_actions e []) ∷ more)
    (λ us bs. Begun (Later fs) (word_terminal word.Foreach ∷ sign_terminal sign.OpenParen ∷ expr_terminals e (word_terminal word.As ∷ variable_terminal x ∷ sign_terminal sign.CloseParen ∷ us)) bs)
    (λ us bs g. each_begun e (value_form x) g) r
each_carries e fs (word_terminal word.As ∷ variable_terminal k ∷ sign_terminal sign.DoubleArrow ∷ variable_terminal x ∷ sign_terminal sign.CloseParen ∷ r) =
    body_carries (loop.Each (Some k) x) fs (λ more. value_action (expr_actions e []) ∷ more)
    (λ us bs. Begun (Later fs) (word_terminal word.Foreach ∷ sign_terminal sign.OpenParen ∷ expr_terminals e (word_terminal word.As ∷ variable_terminal k ∷ sign_terminal sign.DoubleArrow ∷ variable_terminal x ∷ sign_terminal sign.CloseParen ∷ us)) bs)
    (λ us bs g. each_begun e (key_value_form k x) g) r
each_carries e fs ts = tt

pub foreach_carries : ExprSound → (fs : List Frame) (ts : List Terminal) → Carries (foreach_begin_move fs (behind_paren ts)) (Begun (Later fs) (word_terminal word.Foreach ∷ ts))
foreach_carries sound fs (sign_terminal sign.OpenParen ∷ ts) =
    expr_case sound (λ o us. Carries (foreach_move fs o) (Begun (Later fs) (word_terminal word.Foreach ∷ sign_terminal sign.OpenParen ∷ us))) (λ us. tt) (λ e r. each_carries e fs r) ts
foreach_carries sound fs ts = tt

pub for_carries : (fs : List Frame) (ts : List Terminal) → Carries (for_begin_move fs (behind_paren ts)) (Begun (Later fs) (word_terminal word.For ∷ ts))
for_carries fs (sign_terminal sign.OpenParen ∷ ts) = λ bs g. for_begun g
for_carries fs ts = tt

pub jump_carries : (a : StmtAction) (fs : List Frame) (P : Rest) → ((r : List Terminal) (bs : List StmtAction) → Later fs r bs → P (sign_terminal sign.Semicolon ∷ r) (a ∷ bs))
    → (ts : List Terminal) → Carries (jump_move a fs ts) (P ts)
jump_carries a fs P h ts = semicolon_case (λ b left us. Carries (if b then moves focus.Behind fs left (a ∷ []) else stuck) (P us)) (λ left bs g. h left bs g) (λ us. tt) ts

pub return_carries : ExprSound → (fs : List Frame) (ts : List Terminal) → Carries (return_move fs ts) (Begun (Later fs) (word_terminal word.Return ∷ ts))
return_carries sound fs ts =
    semicolon_case
    (λ b left us. Carries (if b then moves focus.Behind fs left (return_action false ∷ []) else value_move (return_action true) fs (statement_at us)) (Begun (Later fs) (word_terminal word.Return ∷ us)))
    (λ left bs g. return_begun left bs g)
    (λ us. value_carries sound (return_action true) fs (λ vs bs. Begun (Later fs) (word_terminal word.Return ∷ vs) bs) (λ e r bs g. return_value_begun e r bs g) us)
    ts

exit_parens_carries : ExprSound → (fs : List Frame) (ts : List Terminal) → Carries (exit_parens_move fs ts) (Begun (Later fs) (word_terminal word.Exit ∷ sign_terminal sign.OpenParen ∷ ts))
exit_parens_carries sound fs ts =
    paren_case
    (λ b left us. Carries (if b then jump_move (exit_action false) fs left else value_move (exit_action true) fs (argument_at us)) (Begun (Later fs) (word_terminal word.Exit ∷ sign_terminal sign.OpenParen ∷ us)))
    (λ left. jump_carries (exit_action false) fs (λ us bs. Begun (Later fs) (word_terminal word.Exit ∷ sign_terminal sign.OpenParen ∷ sign_terminal sign.CloseParen ∷ us) bs) (λ r bs g. exit_parens_begun r bs g) left)
    (λ us. argument_case sound (λ o vs. Carries (value_move (exit_action true) fs o) (Begun (Later fs) (word_terminal word.Exit ∷ sign_terminal sign.OpenParen ∷ vs))) (λ vs. tt) (λ e r bs g. exit_value_begun e r bs g) us)
    ts

pub exit_carries : ExprSound → (fs : List Frame) (ts : List Terminal) → Carries (exit_move fs ts) (Begun (Later fs) (word_terminal word.Exit ∷ ts))
exit_carries sound fs (sign_terminal sign.OpenParen ∷ ts) = exit_parens_carries sound fs ts
exit_carries sound fs ts = jump_carries (exit_action false) fs (λ us bs. Begun (Later fs) (word_terminal word.Exit ∷ us) bs) (λ r bs g. exit_begun r bs g) ts
