-- What the machine does where an expression stands, given what is known of expressions.
use Rattle.std.proofs.Common.{◌≡◌, ◌+◌, ◌<◌, ◌≤◌, true, false, if◌then◌else◌, List, [], ◌∷◌, length, Some, refl, ap, ◌∙◌, arith}
use Rattle.php_syntax.specs.declared.token.Sign.TheVariants as sign
use Rattle.script_grammar.specs.declared.keyword.Keyword.TheVariants as word
use Rattle.script_grammar.specs.Terminals.{Terminal, word_terminal, sign_terminal}
use Rattle.script_grammar.specs.Expressions.{ExprForm, expr_terminals}
use Rattle.script_grammar.specs.Statements.{MaybeForm, nothing_form, something_form, maybe_terminals}
use Rattle.expr_machine.specs.Actions.{Action}
use Rattle.expr_machine.specs.Machine.{behind}
use Rattle.expr_machine.specs.Postfix.{expr_actions}
use Rattle.expr_machine.specs.Reading.{rank_next, expr_at}
use Rattle.stmt_machine.specs.declared.frame.Row.TheVariants as row
use Rattle.stmt_machine.specs.declared.frame.Focus.TheVariants as focus
use Rattle.stmt_machine.specs.declared.frame.Frame.{Frame}
use Rattle.stmt_machine.specs.Actions.{StmtAction, value_action, echo_action, run_action, return_action, exit_action}
use Rattle.stmt_machine.specs.Machine.{moves, move, semicolon_next, paren_end_next, ended_by, condition_at, statement_at, value_move, jump_move, return_move, argument_at, exit_parens_move}
use Rattle.stmt_machine.specs.Postfix.{value_actions, maybe_value_actions, is_something}
use Rattle.stmt_laws.proofs.Runs.{Goes, steps}
use Rattle.stmt_laws.proofs.Opening.{expr_first}
use Rattle.stmt_laws.proofs.Firsts.{value_begins, value_no_semicolon, value_no_end}

-- Each expression that nothing goes on with is read, and fewer terminals stand behind it.
pub record Expressions : Type 0 where
  pub read : (e : ExprForm) (rest : List Terminal) → rank_next rest ≡ 10 → expr_at (expr_terminals e rest) ≡ Some (expr_actions e [], rest)
  pub shorter : (ts : List Terminal) (acts : List Action) (rest : List Terminal) → expr_at ts ≡ Some (acts, rest) → length rest < length ts

pub expr_falls : Expressions → (e : ExprForm) (r : List Terminal) → rank_next r ≡ 10 → length r < length (expr_terminals e r)
expr_falls x e r h = x.shorter (expr_terminals e r) (expr_actions e []) r (x.read e r h)

pub condition_read : Expressions → (e : ExprForm) (r : List Terminal) → condition_at (sign_terminal sign.OpenParen ∷ expr_terminals e (sign_terminal sign.CloseParen ∷ r)) ≡ Some (expr_actions e [], r)
condition_read x e r = ap (ended_by paren_end_next) (x.read e (sign_terminal sign.CloseParen ∷ r) refl)

pub condition_falls : Expressions → (e : ExprForm) (r : List Terminal) → 2 + length r ≤ length (expr_terminals e (sign_terminal sign.CloseParen ∷ r))
condition_falls x e r = let h = expr_falls x e (sign_terminal sign.CloseParen ∷ r) refl in omega (arith, h)

pub statement_read : Expressions → (e : ExprForm) (r : List Terminal) → statement_at (expr_terminals e (sign_terminal sign.Semicolon ∷ r)) ≡ Some (expr_actions e [], r)
statement_read x e r = ap (ended_by semicolon_next) (x.read e (sign_terminal sign.Semicolon ∷ r) refl)

pub statement_falls : Expressions → (e : ExprForm) (r : List Terminal) → 2 + length r ≤ length (expr_terminals e (sign_terminal sign.Semicolon ∷ r))
statement_falls x e r = let h = expr_falls x e (sign_terminal sign.Semicolon ∷ r) refl in omega (arith, h)

-- an expression as a statement, and a print
pub run_reads : Expressions → (e : ExprForm) (fs : List Frame) (r : List Terminal) (k : List StmtAction) → Goes focus.Behind fs r k → Goes focus.Begin fs (expr_terminals e (sign_terminal sign.Semicolon ∷ r)) (value_actions e (run_action ∷ k))
run_reads x e fs r k goes =
    steps (value_begins fs _ (expr_first e (sign_terminal sign.Semicolon ∷ r)) ∙ ap (value_move run_action fs) (statement_read x e r))
    (let h = statement_falls x e r in omega (arith, h)) goes

pub print_reads : Expressions → (e : ExprForm) (fs : List Frame) (r : List Terminal) (k : List StmtAction) → Goes focus.Behind fs r k → Goes focus.Begin fs (word_terminal word.Print ∷ expr_terminals e (sign_terminal sign.Semicolon ∷ r)) (value_actions e (echo_action 1 ∷ k))
unfolding move
print_reads x e fs r k goes =
    steps (ap (value_move (echo_action 1) fs) (statement_read x e r))
    (let h = statement_falls x e r in omega (arith, h)) goes

-- a return
return_value : Expressions → (e : ExprForm) (fs : List Frame) (r : List Terminal) → return_move fs (expr_terminals e (sign_terminal sign.Semicolon ∷ r)) ≡ moves focus.Behind fs r (value_action (expr_actions e []) ∷ return_action true ∷ [])
return_value x e fs r =
    let ts = expr_terminals e (sign_terminal sign.Semicolon ∷ r)
    in ap (λ b. if b then moves focus.Behind fs (behind ts) (return_action false ∷ []) else value_move (return_action true) fs (statement_at ts)) (value_no_semicolon ts (expr_first e (sign_terminal sign.Semicolon ∷ r)))
    ∙ ap (value_move (return_action true) fs) (statement_read x e r)

pub return_reads : Expressions → (e : MaybeForm) (fs : List Frame) (r : List Terminal) (k : List StmtAction) → Goes focus.Behind fs r k → Goes focus.Begin fs (word_terminal word.Return ∷ maybe_terminals e (sign_terminal sign.Semicolon ∷ r)) (maybe_value_actions e (return_action (is_something e) ∷ k))
unfolding move
return_reads x nothing_form fs r k goes = steps refl (omega arith) goes
return_reads x (something_form e) fs r k goes = steps (return_value x e fs r) (let h = statement_falls x e r in omega (arith, h)) goes

-- the argument of an `exit`
argument_read : Expressions → (e : ExprForm) (r : List Terminal) → argument_at (expr_terminals e (sign_terminal sign.CloseParen ∷ sign_terminal sign.Semicolon ∷ r)) ≡ Some (expr_actions e [], r)
argument_read x e r = ap (λ o. ended_by semicolon_next (ended_by paren_end_next o)) (x.read e (sign_terminal sign.CloseParen ∷ sign_terminal sign.Semicolon ∷ r) refl)

argument_falls : Expressions → (e : ExprForm) (r : List Terminal) → 3 + length r ≤ length (expr_terminals e (sign_terminal sign.CloseParen ∷ sign_terminal sign.Semicolon ∷ r))
argument_falls x e r = let h = expr_falls x e (sign_terminal sign.CloseParen ∷ sign_terminal sign.Semicolon ∷ r) refl in omega (arith, h)

exit_value : Expressions → (e : ExprForm) (fs : List Frame) (r : List Terminal) → exit_parens_move fs (expr_terminals e (sign_terminal sign.CloseParen ∷ sign_terminal sign.Semicolon ∷ r)) ≡ moves focus.Behind fs r (value_action (expr_actions e []) ∷ exit_action true ∷ [])
exit_value x e fs r =
    let ts = expr_terminals e (sign_terminal sign.CloseParen ∷ sign_terminal sign.Semicolon ∷ r)
    in ap (λ b. if b then jump_move (exit_action false) fs (behind ts) else value_move (exit_action true) fs (argument_at ts)) (value_no_end (row.Next 0 false) ts (expr_first e (sign_terminal sign.CloseParen ∷ sign_terminal sign.Semicolon ∷ r)))
    ∙ ap (value_move (exit_action true) fs) (argument_read x e r)

pub exit_parens_reads : Expressions → (e : MaybeForm) (fs : List Frame) (r : List Terminal) (k : List StmtAction) → Goes focus.Behind fs r k → Goes focus.Begin fs (word_terminal word.Exit ∷ sign_terminal sign.OpenParen ∷ maybe_terminals e (sign_terminal sign.CloseParen ∷ sign_terminal sign.Semicolon ∷ r)) (maybe_value_actions e (exit_action (is_something e) ∷ k))
unfolding move
exit_parens_reads x nothing_form fs r k goes = steps refl (omega arith) goes
exit_parens_reads x (something_form e) fs r k goes = steps (exit_value x e fs r) (let h = argument_falls x e r in omega (arith, h)) goes
