-- The moves behind a whole expression carry what stands behind it.
use Rattle.std.proofs.Common.{◌≡◌, ℕ, ◌+◌, Bool, List, ◌∷◌, refl, ap, arith}
use Rattle.php_syntax.specs.declared.token.Sign.TheVariants as sign
use Rattle.script_grammar.specs.Terminals.{Terminal, sign_terminal}
use Rattle.script_grammar.specs.Expressions.{ExprForm, expr_terminals, no_more_exprs, one_more_expr, more_exprs_terminals}
use Rattle.expr_machine.specs.declared.frame.Focus.TheVariants as focus
use Rattle.expr_machine.specs.declared.frame.Frame.{Frame}
use Rattle.expr_machine.specs.declared.frame.Frame.TheVariants as frame
use Rattle.expr_machine.specs.Actions.{Action, isset_action, call_action}
use Rattle.expr_machine.specs.Machine.{middle_move, parens_end_move, subscript_end_move, key_end_move, isset_move, empty_end_move, next_argument_move}
use Rattle.expr_machine.specs.Postfix.{expr_actions, more_exprs_actions, exprs_count}
use Rattle.expr_laws.proofs.Shapes.{Ahead, joined, after, respelled}
use Rattle.expr_laws.proofs.Stands.{want, ArgumentTail, arguments_tail, quotes_tail, argument_tail_terminals, argument_tail_actions, FromSubscripted, Filled, Stands, Carries}

-- the value where a condition is true
pub middle_carries : (end : List Terminal) (fs : List Frame) (ts : List Terminal) → Carries end (middle_move fs ts) ts (Filled end (frame.Middle ∷ fs) ts)
middle_carries end fs (sign_terminal sign.Colon ∷ us) = λ later h. (h.0, after (λ r. sign_terminal sign.Colon ∷ r) (λ r. r) (joined h.1 (h.1).goes_on))
middle_carries end fs _ = tt

pub parens_carries : (end : List Terminal) (fs : List Frame) (ts : List Terminal) → Carries end (parens_end_move fs ts) ts (Filled end (frame.Parens ∷ fs) ts)
parens_carries end fs (sign_terminal sign.CloseParen ∷ us) = λ later h. record { left = us; later = later; reads = refl; does = refl; goes_on = h }
parens_carries end fs _ = tt

pub subscript_carries : (end : List Terminal) (fs : List Frame) (ts : List Terminal) → Carries end (subscript_end_move fs ts) ts (Filled end (frame.Subscript ∷ fs) ts)
subscript_carries end fs (sign_terminal sign.CloseBracket ∷ us) = λ later h. record { left = us; later = later; reads = refl; does = refl; goes_on = h }
subscript_carries end fs _ = tt

pub key_carries : (end : List Terminal) (x : List ℕ) (n : ℕ) (gap : Bool) (fs : List Frame) (ts : List Terminal) → Carries end (key_end_move x n gap fs ts) ts (Filled end (frame.Key x n gap ∷ fs) ts)
key_carries end x n gap fs (sign_terminal sign.CloseBracket ∷ us) = λ later h. record { left = us; later = later; reads = refl; does = refl; goes_on = h }
key_carries end x n gap fs _ = tt

pub empty_carries : (end : List Terminal) (fs : List Frame) (ts : List Terminal) → Carries end (empty_end_move fs ts) ts (Filled end (frame.Empty ∷ fs) ts)
empty_carries end fs (sign_terminal sign.CloseParen ∷ us) = λ later h. record { left = us; later = later; reads = refl; does = refl; goes_on = h }
empty_carries end fs _ = tt

-- counts
pub count_none : (n : ℕ) → n + 1 ≡ n + 0 + 1
count_none n = omega arith

pub count_more : (n m : ℕ) → n + 1 + m + 1 ≡ n + (1 + m) + 1
count_more n m = omega arith

-- the operands of `isset`
isset_ends : (end : List Terminal) (n : ℕ) (fs : List Frame) (us : List Terminal) (later : List Action) → Stands end focus.Unary fs us later
    → Filled end (frame.Isset n ∷ fs) (sign_terminal sign.CloseParen ∷ us) (isset_action (n + 1) ∷ later)
unfolding more_exprs_terminals more_exprs_actions
isset_ends end n fs us later h = (no_more_exprs, record { left = us; later = later; reads = refl; does = ap (λ m. isset_action m ∷ later) (count_none n); goes_on = h })

isset_goes_on : (end : List Terminal) (n : ℕ) (fs : List Frame) (us : List Terminal) (later : List Action) → Stands end focus.Begin (frame.Isset (n + 1) ∷ fs) us later
    → Filled end (frame.Isset n ∷ fs) (sign_terminal sign.Comma ∷ us) later
unfolding more_exprs_terminals more_exprs_actions
isset_goes_on end n fs us later h =
    let z = (h.1).goes_on
    in let q = after (λ r. sign_terminal sign.Comma ∷ r) (λ r. r) (joined h.1 z.1)
    in (one_more_expr h.0 z.0, respelled (λ r. expr_actions h.0 (more_exprs_actions z.0 (isset_action (n + (1 + exprs_count z.0) + 1) ∷ r))) (λ r. ap (λ m. expr_actions h.0 (more_exprs_actions z.0 (isset_action m ∷ r))) (count_more n (exprs_count z.0))) q)

pub isset_carries : (end : List Terminal) (n : ℕ) (fs : List Frame) (ts : List Terminal) → Carries end (isset_move n fs ts) ts (Filled end (frame.Isset n ∷ fs) ts)
isset_carries end n fs (sign_terminal sign.CloseParen ∷ us) = λ later h. isset_ends end n fs us later h
isset_carries end n fs (sign_terminal sign.Comma ∷ us) = λ later h. isset_goes_on end n fs us later h
isset_carries end n fs _ = tt

-- the arguments of a call
argument_ends : (end : List Terminal) (f : List ℕ) (n : ℕ) (fs : List Frame) (us : List Terminal) (later : List Action) → Stands end focus.Subscripted fs us later
    → Filled end (frame.Argument f n ∷ fs) (sign_terminal sign.CloseParen ∷ us) (call_action f (n + 1) ∷ later)
unfolding more_exprs_terminals more_exprs_actions
argument_ends end f n fs us later h = (arguments_tail no_more_exprs, record { left = us; later = later; reads = refl; does = ap (λ m. call_action f m ∷ later) (count_none n); goes_on = h })

-- an argument before the tail of the next one
argument_before : (end : List Terminal) (f : List ℕ) (n : ℕ) (fs : List Frame) (us : List Terminal) (later : List Action) (e : ExprForm) (t : ArgumentTail f (n + 1))
    → Ahead (λ r. sign_terminal sign.Comma ∷ expr_terminals e (argument_tail_terminals t r)) (λ r. expr_actions e (argument_tail_actions t r)) (FromSubscripted (want fs) (Filled end fs)) (sign_terminal sign.Comma ∷ us) later
    → Filled end (frame.Argument f n ∷ fs) (sign_terminal sign.Comma ∷ us) later
unfolding more_exprs_terminals more_exprs_actions
argument_before end f n fs us later e (arguments_tail es) q =
    (arguments_tail (one_more_expr e es), respelled (λ r. expr_actions e (more_exprs_actions es (call_action f (n + (1 + exprs_count es) + 1) ∷ r))) (λ r. ap (λ m. expr_actions e (more_exprs_actions es (call_action f m ∷ r))) (count_more n (exprs_count es))) q)
argument_before end f n fs us later e (quotes_tail is none quotes) q = absurd (omega (arith, none))

argument_goes_on : (end : List Terminal) (f : List ℕ) (n : ℕ) (fs : List Frame) (us : List Terminal) (later : List Action) → Stands end focus.Begin (frame.Argument f (n + 1) ∷ fs) us later
    → Filled end (frame.Argument f n ∷ fs) (sign_terminal sign.Comma ∷ us) later
argument_goes_on end f n fs us later h =
    let z = (h.1).goes_on in argument_before end f n fs us later h.0 z.0 (after (λ r. sign_terminal sign.Comma ∷ r) (λ r. r) (joined h.1 z.1))

pub next_argument_carries : (end : List Terminal) (f : List ℕ) (n : ℕ) (fs : List Frame) (ts : List Terminal) → Carries end (next_argument_move f n fs ts) ts (Filled end (frame.Argument f n ∷ fs) ts)
next_argument_carries end f n fs (sign_terminal sign.CloseParen ∷ us) = λ later h. argument_ends end f n fs us later h
next_argument_carries end f n fs (sign_terminal sign.Comma ∷ us) = λ later h. argument_goes_on end f n fs us later h
next_argument_carries end f n fs _ = tt
