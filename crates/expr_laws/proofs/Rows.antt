-- Rows of expressions and items are read: arguments, operands of `isset`, and arrays.
use Rattle.std.proofs.Common.{◌≡◌, ℕ, ◌+◌, Bool, true, false, if◌then◌else◌, ◌&&◌, ◌==◌, List, ◌∷◌, None, refl, ap, subst, arith}
use Rattle.php_syntax.specs.declared.token.Sign.TheVariants as sign
use Rattle.script_grammar.specs.Terminals.{Terminal, sign_terminal}
use Rattle.script_grammar.specs.Expressions.{is_escape, ExprForm, isset_form, empty_form, MoreExprsForm, no_more_exprs, one_more_expr, expr_terminals, more_exprs_terminals}
use Rattle.expr_machine.specs.declared.frame.Focus.TheVariants as focus
use Rattle.expr_machine.specs.declared.frame.Frame.{Frame}
use Rattle.expr_machine.specs.declared.frame.Frame.TheVariants as frame
use Rattle.expr_machine.specs.Actions.{isset_action, call_action}
use Rattle.expr_machine.specs.Machine.{move, behind_quotes, escape_move}
use Rattle.expr_machine.specs.Postfix.{exprs_count, expr_actions}
use Rattle.expr_laws.proofs.Goes.{Goes, steps}
use Rattle.expr_laws.proofs.Opening.{expr_opens, no_quotes}
use Rattle.expr_laws.proofs.Levels.{exprs_rank}
use Rattle.expr_laws.proofs.Claims.{ExprReads, PostReads, ArgumentsRead, IssetReads}

-- one more argument
quoteless : (b : Bool) (ts : List Terminal) (f : List ℕ) (n : ℕ) (fs : List Frame) → behind_quotes ts ≡ None → escape_move (if b then behind_quotes ts else None) f n fs ts ≡ escape_move None f n fs ts
quoteless true ts f n fs h = ap (λ found. escape_move found f n fs ts) h
quoteless false ts f n fs h = refl

pub arguments_end : ArgumentsRead no_more_exprs
unfolding expr_terminals expr_actions move
arguments_end f n m fs r k count out goes =
    subst (λ (j : ℕ). Goes focus.Whole (frame.Argument f n ∷ fs) (sign_terminal sign.CloseParen ∷ r) (call_action f j ∷ k) out) (omega arith)
    (steps (quoteless (is_escape f && (n == 0)) (sign_terminal sign.CloseParen ∷ r) f n fs refl) goes)

pub arguments_read : (e : ExprForm) (es : MoreExprsForm) → ExprReads e → ArgumentsRead es → ArgumentsRead (one_more_expr e es)
unfolding expr_terminals expr_actions move
arguments_read e es first others f n m fs r k count out goes =
    let behind : List Terminal = more_exprs_terminals es (sign_terminal sign.CloseParen ∷ r) in
    let ts : List Terminal = expr_terminals e behind in
    steps (quoteless (is_escape f && (n == 0)) (sign_terminal sign.Comma ∷ ts) f n fs (no_quotes ts (expr_opens e behind)))
    (first (frame.Argument f (n + 1) ∷ fs) behind _ (exprs_rank es r) refl out
    (others f (n + 1) m fs r k (omega arith) out goes))

-- one more operand of `isset`
pub isset_ends : IssetReads no_more_exprs
unfolding expr_terminals expr_actions move
isset_ends n m fs r k count out goes =
    subst (λ (j : ℕ). Goes focus.Whole (frame.Isset n ∷ fs) (sign_terminal sign.CloseParen ∷ r) (isset_action j ∷ k) out) (omega arith)
    (steps refl goes)

pub isset_reads : (e : ExprForm) (es : MoreExprsForm) → ExprReads e → IssetReads es → IssetReads (one_more_expr e es)
unfolding expr_terminals expr_actions move
isset_reads e es first others n m fs r k count out goes =
    steps refl
    (first (frame.Isset (n + 1) ∷ fs) (more_exprs_terminals es (sign_terminal sign.CloseParen ∷ r)) _ (exprs_rank es r) refl out
    (others (n + 1) m fs r k (omega arith) out goes))

pub isset_form_reads : (e : ExprForm) (es : MoreExprsForm) → ExprReads e → IssetReads es → PostReads (isset_form e es)
unfolding expr_terminals expr_actions move
isset_form_reads e es first others fs r k next out goes =
    steps refl
    (first (frame.Isset 0 ∷ fs) (more_exprs_terminals es (sign_terminal sign.CloseParen ∷ r)) _ (exprs_rank es r) refl out
    (others 0 (exprs_count es + 1) fs r k (omega arith) out goes))

pub empty_form_reads : (e : ExprForm) → ExprReads e → PostReads (empty_form e)
unfolding expr_terminals expr_actions move
empty_form_reads e reads fs r k next out goes =
    steps refl
    (reads (frame.Empty ∷ fs) (sign_terminal sign.CloseParen ∷ r) _ refl refl out
    (steps refl goes))
