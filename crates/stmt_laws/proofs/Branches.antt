-- The arms of an `if`, in the form with statements and in the form with `:`.
use Rattle.std.proofs.Common.{◌≡◌, ℕ, ◌+◌, true, false, if◌then◌else◌, List, [], ◌∷◌, Some, refl, ap, ◌∙◌, arith}
use Rattle.php_syntax.specs.declared.token.Sign.TheVariants as sign
use Rattle.script_grammar.specs.declared.keyword.Keyword.{Keyword}
use Rattle.script_grammar.specs.declared.keyword.Keyword.TheVariants as word
use Rattle.script_grammar.specs.Terminals.{Terminal, word_terminal, sign_terminal}
use Rattle.script_grammar.specs.Expressions.{ExprForm}
use Rattle.script_grammar.specs.Statements.{condition_terminals, is_include, is_if, StmtForm, semicolon_form, inline_form, block_form, echo_form, print_form, run_form, if_form, colon_if_form, while_form, do_form, for_form, each_form, break_form, continue_form, return_form, include_form, include_parens_form, exit_form, exit_parens_form, stmt_terminals}
use Rattle.expr_machine.specs.Actions.{Action}
use Rattle.expr_machine.specs.Machine.{behind}
use Rattle.expr_machine.specs.Postfix.{expr_actions}
use Rattle.stmt_machine.specs.declared.frame.Focus.TheVariants as focus
use Rattle.stmt_machine.specs.declared.frame.Frame.{Frame}
use Rattle.stmt_machine.specs.declared.frame.Frame.TheVariants as frame
use Rattle.stmt_machine.specs.Actions.{StmtAction, value_action, open_action, if_action}
use Rattle.stmt_machine.specs.Machine.{moves, move, if_move, elseif_move, else_if_move, else_move, colon_elseif_move}
use Rattle.stmt_machine.specs.Postfix.{value_actions}
use Rattle.stmt_machine.specs.Reading.{else_next}
use Rattle.stmt_laws.proofs.Runs.{Goes, steps, swap}
use Rattle.stmt_laws.proofs.Opening.{expr_first}
use Rattle.stmt_laws.proofs.Firsts.{stmt_first, stmt_no_colon, else_value}
use Rattle.stmt_laws.proofs.Values.{Expressions, condition_read, condition_falls}

-- the first arm, before a statement and before a colon
if_statement : (acts : List Action) (fs : List Frame) (ts : List Terminal) → stmt_first ts ≡ true → if_move fs (Some (acts, ts)) ≡ moves focus.Begin (frame.Arm 1 ∷ fs) ts (value_action acts ∷ open_action false ∷ [])
if_statement acts fs ts h = ap (λ b. if b then moves focus.Behind (frame.ColonArm 1 ∷ fs) (behind ts) (value_action acts ∷ open_action false ∷ []) else moves focus.Begin (frame.Arm 1 ∷ fs) ts (value_action acts ∷ open_action false ∷ [])) (stmt_no_colon ts h)

pub if_begins : Expressions → (e : ExprForm) (fs : List Frame) (ts : List Terminal) (acts : List StmtAction) → stmt_first ts ≡ true → Goes focus.Begin (frame.Arm 1 ∷ fs) ts acts → Goes focus.Begin fs (word_terminal word.If ∷ condition_terminals e ts) (value_actions e (open_action false ∷ acts))
unfolding move
if_begins x e fs ts acts h goes =
    steps (ap (if_move fs) (condition_read x e ts) ∙ if_statement (expr_actions e []) fs ts h)
    (let falls = condition_falls x e ts in omega (arith, falls)) goes

colon_if_move : Expressions → (e : ExprForm) (fs : List Frame) (ts : List Terminal) → move focus.Begin fs (word_terminal word.If ∷ condition_terminals e (sign_terminal sign.Colon ∷ ts)) ≡ moves focus.Behind (frame.ColonArm 1 ∷ fs) ts (value_action (expr_actions e []) ∷ open_action false ∷ [])
unfolding move
colon_if_move x e fs ts = ap (if_move fs) (condition_read x e (sign_terminal sign.Colon ∷ ts))

pub colon_if_begins : Expressions → (e : ExprForm) (fs : List Frame) (ts : List Terminal) (acts : List StmtAction) → Goes focus.Behind (frame.ColonArm 1 ∷ fs) ts acts → Goes focus.Begin fs (word_terminal word.If ∷ condition_terminals e (sign_terminal sign.Colon ∷ ts)) (value_actions e (open_action false ∷ acts))
colon_if_begins x e fs ts acts goes = steps (colon_if_move x e fs ts) (let falls = condition_falls x e (sign_terminal sign.Colon ∷ ts) in omega (arith, falls)) goes

-- the end of an `if` without an `else`, and of an `else`
arm_end : (n : ℕ) (fs : List Frame) (ts : List Terminal) → else_next ts ≡ false → move focus.Behind (frame.Arm n ∷ fs) ts ≡ moves focus.Behind fs ts (if_action n false ∷ [])
unfolding move
arm_end n fs [] h = refl
arm_end n fs (word_terminal word.ElseIf ∷ r) h = absurd cc
arm_end n fs (word_terminal word.Else ∷ r) h = absurd cc
arm_end n fs (word_terminal _ ∷ r) h = refl
arm_end n fs (_ ∷ r) h = refl

pub arm_ends : (n : ℕ) (fs : List Frame) (r : List Terminal) (k : List StmtAction) → else_next r ≡ false → Goes focus.Behind fs r k → Goes focus.Behind (frame.Arm n ∷ fs) r (if_action n false ∷ k)
arm_ends n fs r k h goes = steps (arm_end n fs r h) (omega arith) goes

pub else_ends : (n : ℕ) (fs : List Frame) (r : List Terminal) (k : List StmtAction) → Goes focus.Behind fs r k → Goes focus.Behind (frame.Else n ∷ fs) r (if_action n true ∷ k)
unfolding move
else_ends n fs r k goes = steps refl (omega arith) goes

-- one more arm
pub elseif_begins : Expressions → (e : ExprForm) (n : ℕ) (fs : List Frame) (ts : List Terminal) (acts : List StmtAction) → Goes focus.Begin (frame.Arm (n + 1) ∷ fs) ts acts → Goes focus.Behind (frame.Arm n ∷ fs) (word_terminal word.ElseIf ∷ condition_terminals e ts) (value_actions e (open_action false ∷ acts))
unfolding move
elseif_begins x e n fs ts acts goes =
    steps (ap (elseif_move n fs) (condition_read x e ts)) (let falls = condition_falls x e ts in omega (arith, falls)) goes

else_if_statement : (acts : List Action) (n : ℕ) (fs : List Frame) (ts : List Terminal) → stmt_first ts ≡ true → else_if_move n fs (Some (acts, ts)) ≡ moves focus.Begin (frame.Arm (n + 1) ∷ fs) ts (open_action false ∷ value_action acts ∷ [])
else_if_statement acts n fs ts h = ap (λ b. if b then moves focus.Behind (frame.ColonArm 1 ∷ frame.Else n ∷ fs) (behind ts) (open_action false ∷ value_action acts ∷ open_action false ∷ []) else moves focus.Begin (frame.Arm (n + 1) ∷ fs) ts (open_action false ∷ value_action acts ∷ [])) (stmt_no_colon ts h)

pub else_if_begins : Expressions → (e : ExprForm) (n : ℕ) (fs : List Frame) (ts : List Terminal) (acts : List StmtAction) → stmt_first ts ≡ true → Goes focus.Begin (frame.Arm (n + 1) ∷ fs) ts acts → Goes focus.Behind (frame.Arm n ∷ fs) (word_terminal word.Else ∷ word_terminal word.If ∷ condition_terminals e ts) (open_action false ∷ value_actions e acts)
unfolding move
else_if_begins x e n fs ts acts h goes =
    steps (ap (else_if_move n fs) (condition_read x e ts) ∙ else_if_statement (expr_actions e []) n fs ts h)
    (let falls = condition_falls x e ts in omega (arith, falls)) goes

-- an `else` before a statement that is no `if` in the form with statements
else_colon_if_move : Expressions → (e : ExprForm) (n : ℕ) (fs : List Frame) (ts : List Terminal) → move focus.Behind (frame.Arm n ∷ fs) (word_terminal word.Else ∷ word_terminal word.If ∷ condition_terminals e (sign_terminal sign.Colon ∷ ts)) ≡ moves focus.Behind (frame.ColonArm 1 ∷ frame.Else n ∷ fs) ts (open_action false ∷ value_action (expr_actions e []) ∷ open_action false ∷ [])
unfolding move
else_colon_if_move x e n fs ts = ap (else_if_move n fs) (condition_read x e (sign_terminal sign.Colon ∷ ts))

else_colon_if : Expressions → (e : ExprForm) (n : ℕ) (fs : List Frame) (ts : List Terminal) (acts : List StmtAction)
    → Goes focus.Begin (frame.Else n ∷ fs) (word_terminal word.If ∷ condition_terminals e (sign_terminal sign.Colon ∷ ts)) acts
    → Goes focus.Behind (frame.Arm n ∷ fs) (word_terminal word.Else ∷ word_terminal word.If ∷ condition_terminals e (sign_terminal sign.Colon ∷ ts)) (open_action false ∷ acts)
else_colon_if x e n fs ts acts goes = swap (open_action false) (colon_if_move x e (frame.Else n ∷ fs) ts) (else_colon_if_move x e n fs ts) (omega arith) goes

else_include : (k : Keyword) (n : ℕ) (fs : List Frame) (r : List Terminal) → is_include k ≡ true → else_move n fs (word_terminal k ∷ r) ≡ moves focus.Begin (frame.Else n ∷ fs) (word_terminal k ∷ r) (open_action false ∷ [])
else_include word.Include n fs r is = refl
else_include word.Require n fs r is = refl
else_include _ n fs r is = absurd cc

else_goes : (n : ℕ) (fs : List Frame) (ts : List Terminal) (acts : List StmtAction) → else_move n fs ts ≡ moves focus.Begin (frame.Else n ∷ fs) ts (open_action false ∷ []) → Goes focus.Begin (frame.Else n ∷ fs) ts acts → Goes focus.Behind (frame.Arm n ∷ fs) (word_terminal word.Else ∷ ts) (open_action false ∷ acts)
unfolding move
else_goes n fs ts acts e goes = steps e (omega arith) goes

pub else_begins : Expressions → (s : StmtForm) (n : ℕ) (fs : List Frame) (r : List Terminal) (acts : List StmtAction) → is_if s ≡ false → Goes focus.Begin (frame.Else n ∷ fs) (stmt_terminals s r) acts → Goes focus.Behind (frame.Arm n ∷ fs) (word_terminal word.Else ∷ stmt_terminals s r) (open_action false ∷ acts)
unfolding stmt_terminals
else_begins x semicolon_form n fs r acts h goes = else_goes n fs _ acts refl goes
else_begins x (inline_form t) n fs r acts h goes = else_goes n fs _ acts refl goes
else_begins x (block_form ss) n fs r acts h goes = else_goes n fs _ acts refl goes
else_begins x (echo_form e es) n fs r acts h goes = else_goes n fs _ acts refl goes
else_begins x (print_form e) n fs r acts h goes = else_goes n fs _ acts refl goes
else_begins x (run_form e) n fs r acts h goes = else_goes n fs _ acts (else_value n fs _ (expr_first e (sign_terminal sign.Semicolon ∷ r))) goes
else_begins x (if_form e s a l) n fs r acts h goes = absurd cc
else_begins x (colon_if_form e ss a l) n fs r acts h goes = else_colon_if x e n fs _ acts goes
else_begins x (while_form e b) n fs r acts h goes = else_goes n fs _ acts refl goes
else_begins x (do_form s e) n fs r acts h goes = else_goes n fs _ acts refl goes
else_begins x (for_form begin e next b) n fs r acts h goes = else_goes n fs _ acts refl goes
else_begins x (each_form e v b) n fs r acts h goes = else_goes n fs _ acts refl goes
else_begins x break_form n fs r acts h goes = else_goes n fs _ acts refl goes
else_begins x continue_form n fs r acts h goes = else_goes n fs _ acts refl goes
else_begins x (return_form e) n fs r acts h goes = else_goes n fs _ acts refl goes
else_begins x (include_form k is t) n fs r acts h goes = else_goes n fs _ acts (else_include k n fs _ is) goes
else_begins x (include_parens_form k is t) n fs r acts h goes = else_goes n fs _ acts (else_include k n fs _ is) goes
else_begins x exit_form n fs r acts h goes = else_goes n fs _ acts refl goes
else_begins x (exit_parens_form e) n fs r acts h goes = else_goes n fs _ acts refl goes

-- the form with `:`
pub colon_elseif_begins : Expressions → (e : ExprForm) (n : ℕ) (fs : List Frame) (ts : List Terminal) (acts : List StmtAction) → Goes focus.Behind (frame.ColonArm (n + 1) ∷ fs) ts acts → Goes focus.Behind (frame.ColonArm n ∷ fs) (word_terminal word.ElseIf ∷ condition_terminals e (sign_terminal sign.Colon ∷ ts)) (value_actions e (open_action false ∷ acts))
unfolding move
colon_elseif_begins x e n fs ts acts goes =
    steps (ap (colon_elseif_move n fs) (condition_read x e (sign_terminal sign.Colon ∷ ts)))
    (let falls = condition_falls x e (sign_terminal sign.Colon ∷ ts) in omega (arith, falls)) goes

pub colon_else_begins : (n : ℕ) (fs : List Frame) (ts : List Terminal) (acts : List StmtAction) → Goes focus.Behind (frame.ColonElse n ∷ fs) ts acts → Goes focus.Behind (frame.ColonArm n ∷ fs) (word_terminal word.Else ∷ sign_terminal sign.Colon ∷ ts) (open_action false ∷ acts)
unfolding move
colon_else_begins n fs ts acts goes = steps refl (omega arith) goes

pub colon_arm_ends : (n : ℕ) (fs : List Frame) (r : List Terminal) (k : List StmtAction) → Goes focus.Behind fs r k → Goes focus.Behind (frame.ColonArm n ∷ fs) (word_terminal word.EndIf ∷ sign_terminal sign.Semicolon ∷ r) (if_action n false ∷ k)
unfolding move
colon_arm_ends n fs r k goes = steps refl (omega arith) goes

pub colon_else_ends : (n : ℕ) (fs : List Frame) (r : List Terminal) (k : List StmtAction) → Goes focus.Behind fs r k → Goes focus.Behind (frame.ColonElse n ∷ fs) (word_terminal word.EndIf ∷ sign_terminal sign.Semicolon ∷ r) (if_action n true ∷ k)
unfolding move
colon_else_ends n fs r k goes = steps refl (omega arith) goes
