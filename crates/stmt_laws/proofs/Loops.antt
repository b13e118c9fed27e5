-- Loops: their heads, and their bodies in either form.
use Rattle.std.proofs.Common.{◌≡◌, ℕ, ◌+◌, ◌*◌, ◌≤◌, Bool, true, if◌then◌else◌, List, [], ◌∷◌, length, refl, ap, ◌∙◌, arith}
use Rattle.php_syntax.specs.declared.token.Sign.TheVariants as sign
use Rattle.script_grammar.specs.declared.keyword.Keyword.{Keyword}
use Rattle.script_grammar.specs.declared.keyword.Keyword.TheVariants as word
use Rattle.script_grammar.specs.Terminals.{Terminal, word_terminal, sign_terminal}
use Rattle.script_grammar.specs.Expressions.{ExprForm, ListForm, expr_terminals, list_terminals}
use Rattle.script_grammar.specs.Statements.{MaybeForm, maybe_terminals, condition_terminals, VariablesForm, value_form, key_value_form, variables_terminals, key_variable, value_variable}
use Rattle.expr_machine.specs.Machine.{behind}
use Rattle.expr_machine.specs.Postfix.{expr_actions}
use Rattle.stmt_machine.specs.declared.frame.Loop.{Loop}
use Rattle.stmt_machine.specs.declared.frame.Loop.TheVariants as loop
use Rattle.stmt_machine.specs.declared.frame.Row.TheVariants as row
use Rattle.stmt_machine.specs.declared.frame.Focus.{Focus}
use Rattle.stmt_machine.specs.declared.frame.Focus.TheVariants as focus
use Rattle.stmt_machine.specs.declared.frame.Frame.{Frame}
use Rattle.stmt_machine.specs.declared.frame.Frame.TheVariants as frame
use Rattle.stmt_machine.specs.Actions.{StmtAction, value_action, open_action, loop_action, do_action}
use Rattle.stmt_machine.specs.Machine.{moves, move, body_move, while_move, foreach_move, ends_loop, jump_move, do_end_move}
use Rattle.stmt_machine.specs.Postfix.{value_actions, list_values_actions, list_count, maybe_value_actions, is_something}
use Rattle.stmt_machine.specs.Reading.{weight}
use Rattle.stmt_laws.proofs.Runs.{Goes, steps}
use Rattle.stmt_laws.proofs.Firsts.{stmt_first, stmt_no_colon}
use Rattle.stmt_laws.proofs.Values.{Expressions, expr_falls, condition_read, condition_falls}
use Rattle.stmt_laws.proofs.Rows.{for_reads}

-- Where the body of a loop leads, what is done there, and that this is little more than what is left to read.
pub record BodyGoes (l : Loop) (fs : List Frame) (ts : List Terminal) (acts : List StmtAction) : Type 0 where
  pub place : Focus
  pub frames : List Frame
  pub rest : List Terminal
  pub is : (before : List StmtAction → List StmtAction) → body_move l fs ts before ≡ moves place frames rest (before (open_action true ∷ []))
  pub falls : weight place frames rest ≤ 64 * length ts + 2 * length fs + 2
  pub goes : Goes place frames rest acts

-- a body of one statement
body_statement : (l : Loop) (fs : List Frame) (ts : List Terminal) (before : List StmtAction → List StmtAction) → stmt_first ts ≡ true → body_move l fs ts before ≡ moves focus.Begin (frame.Body l ∷ fs) ts (before (open_action true ∷ []))
body_statement l fs ts before h = ap (λ b. if b then moves focus.Behind (frame.ColonBody l ∷ fs) (behind ts) (before (open_action true ∷ [])) else moves focus.Begin (frame.Body l ∷ fs) ts (before (open_action true ∷ []))) (stmt_no_colon ts h)

pub stmt_body_goes : (l : Loop) (fs : List Frame) (ts : List Terminal) (acts : List StmtAction) → stmt_first ts ≡ true → Goes focus.Begin (frame.Body l ∷ fs) ts acts → BodyGoes l fs ts acts
stmt_body_goes l fs ts acts h goes = record { place = focus.Begin; frames = frame.Body l ∷ fs; rest = ts; is = λ before. body_statement l fs ts before h; falls = omega arith; goes = goes }

pub body_end : (l : Loop) (fs : List Frame) (r : List Terminal) (k : List StmtAction) → Goes focus.Behind fs r k → Goes focus.Behind (frame.Body l ∷ fs) r (loop_action l ∷ k)
unfolding move
body_end l fs r k goes = steps refl (omega arith) goes

-- a body between `:` and the word that ends the loop
pub colon_body_goes : (l : Loop) (fs : List Frame) (ts : List Terminal) (acts : List StmtAction) → Goes focus.Behind (frame.ColonBody l ∷ fs) ts acts → BodyGoes l fs (sign_terminal sign.Colon ∷ ts) acts
colon_body_goes l fs ts acts goes = record { place = focus.Behind; frames = frame.ColonBody l ∷ fs; rest = ts; is = λ before. refl; falls = omega arith; goes = goes }

colon_end_move : (l : Loop) (w : Keyword) (fs : List Frame) (r : List Terminal) → ends_loop l w ≡ true → move focus.Behind (frame.ColonBody l ∷ fs) (word_terminal w ∷ sign_terminal sign.Semicolon ∷ r) ≡ moves focus.Behind fs r (loop_action l ∷ [])
unfolding move
colon_end_move l w fs r h =
    let ts : List Terminal = sign_terminal sign.Semicolon ∷ r
    in ap (λ b. if b then jump_move (loop_action l) fs ts else moves focus.Begin (frame.ColonBody l ∷ fs) (word_terminal w ∷ ts) []) h

pub colon_body_end : (l : Loop) (w : Keyword) (fs : List Frame) (r : List Terminal) (k : List StmtAction) → ends_loop l w ≡ true → Goes focus.Behind fs r k → Goes focus.Behind (frame.ColonBody l ∷ fs) (word_terminal w ∷ sign_terminal sign.Semicolon ∷ r) (loop_action l ∷ k)
colon_body_end l w fs r k h goes = steps (colon_end_move l w fs r h) (omega arith) goes

-- the loops by their heads
pub while_reads : Expressions → (e : ExprForm) (fs : List Frame) (ts : List Terminal) (acts : List StmtAction) → BodyGoes loop.While fs ts acts → Goes focus.Begin fs (word_terminal word.While ∷ condition_terminals e ts) (value_actions e (open_action true ∷ acts))
unfolding move
while_reads x e fs ts acts body =
    steps (ap (while_move fs) (condition_read x e ts) ∙ body.is (λ more. value_action (expr_actions e []) ∷ more))
    (let h = condition_falls x e ts in omega (arith, body.falls)) body.goes

for_end : (b : ℕ) (c : Bool) (n : ℕ) (fs : List Frame) (ts : List Terminal) (acts : List StmtAction) → BodyGoes (loop.For b c n) fs ts acts → Goes (focus.Listed (row.Next b c) n) fs (sign_terminal sign.CloseParen ∷ ts) (open_action true ∷ acts)
unfolding move
for_end b c n fs ts acts body = steps (body.is (λ more. more)) (omega (arith, body.falls)) body.goes

pub for_loop_reads : Expressions → (begin : ListForm) (e : MaybeForm) (next : ListForm) (fs : List Frame) (ts : List Terminal) (acts : List StmtAction) → BodyGoes (loop.For (list_count begin) (is_something e) (list_count next)) fs ts acts
    → Goes focus.Begin fs (word_terminal word.For ∷ sign_terminal sign.OpenParen ∷ list_terminals begin (sign_terminal sign.Semicolon ∷ maybe_terminals e (sign_terminal sign.Semicolon ∷ list_terminals next (sign_terminal sign.CloseParen ∷ ts))))
    (list_values_actions begin (maybe_value_actions e (list_values_actions next (open_action true ∷ acts))))
for_loop_reads x begin e next fs ts acts body = for_reads x begin e next fs ts (open_action true ∷ acts) (for_end (list_count begin) (is_something e) (list_count next) fs ts acts body)

pub each_reads : Expressions → (e : ExprForm) (v : VariablesForm) (fs : List Frame) (ts : List Terminal) (acts : List StmtAction) → BodyGoes (loop.Each (key_variable v) (value_variable v)) fs ts acts
    → Goes focus.Begin fs (word_terminal word.Foreach ∷ sign_terminal sign.OpenParen ∷ expr_terminals e (word_terminal word.As ∷ variables_terminals v (sign_terminal sign.CloseParen ∷ ts))) (value_actions e (open_action true ∷ acts))
unfolding move
each_reads x e (value_form v) fs ts acts body =
    let r : List Terminal = word_terminal word.As ∷ variables_terminals (value_form v) (sign_terminal sign.CloseParen ∷ ts)
    in steps (ap (foreach_move fs) (x.read e r refl) ∙ body.is (λ more. value_action (expr_actions e []) ∷ more))
    (let h = expr_falls x e r refl in omega (arith, body.falls)) body.goes
each_reads x e (key_value_form w v) fs ts acts body =
    let r : List Terminal = word_terminal word.As ∷ variables_terminals (key_value_form w v) (sign_terminal sign.CloseParen ∷ ts)
    in steps (ap (foreach_move fs) (x.read e r refl) ∙ body.is (λ more. value_action (expr_actions e []) ∷ more))
    (let h = expr_falls x e r refl in omega (arith, body.falls)) body.goes

-- a `do`
pub do_begins : (fs : List Frame) (ts : List Terminal) (acts : List StmtAction) → Goes focus.Begin (frame.Do ∷ fs) ts acts → Goes focus.Begin fs (word_terminal word.Do ∷ ts) (open_action true ∷ acts)
unfolding move
do_begins fs ts acts goes = steps refl (omega arith) goes

pub do_end : Expressions → (e : ExprForm) (fs : List Frame) (r : List Terminal) (k : List StmtAction) → Goes focus.Behind fs r k → Goes focus.Behind (frame.Do ∷ fs) (word_terminal word.While ∷ condition_terminals e (sign_terminal sign.Semicolon ∷ r)) (value_actions e (do_action ∷ k))
unfolding move
do_end x e fs r k goes =
    steps (ap (do_end_move fs) (condition_read x e (sign_terminal sign.Semicolon ∷ r)))
    (let h = condition_falls x e (sign_terminal sign.Semicolon ∷ r) in omega (arith, h)) goes
