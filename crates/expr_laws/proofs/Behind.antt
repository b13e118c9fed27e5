-- The moves behind a value that is not a whole expression carry what stands behind them.
use Rattle.std.proofs.Common.{List, ◌∷◌, refl}
use Rattle.php_syntax.specs.declared.token.Sign.TheVariants as sign
use Rattle.script_grammar.specs.Terminals.{Terminal, sign_terminal}
use Rattle.script_grammar.specs.Expressions.{subscripts_terminals, no_subscript, subscript_form}
use Rattle.expr_machine.specs.declared.frame.Focus.TheVariants as focus
use Rattle.expr_machine.specs.declared.frame.Frame.{Frame}
use Rattle.expr_machine.specs.declared.frame.Frame.TheVariants as frame
use Rattle.expr_machine.specs.Actions.{Action}
use Rattle.expr_machine.specs.Machine.{unary_move, coalesce_move, question_move, choice_move, subscripted_move}
use Rattle.expr_machine.specs.Postfix.{subscripts_actions}
use Rattle.expr_laws.proofs.Shapes.{Reads, joined, after}
use Rattle.expr_laws.proofs.Stands.{want, end_of_nul, goes_nul, end_of_choice, short_tail, full_tail, choice_tail_terminals, choice_tail_actions, FromWhole, FromChain, FromSubscripted, Filled, Stands, Carries}

-- behind a value that subscripts may follow
subscript_read : (end : List Terminal) (fs : List Frame) (us : List Terminal) (later : List Action) → Stands end focus.Begin (frame.Subscript ∷ fs) us later
    → FromSubscripted (want fs) (Filled end fs) (sign_terminal sign.OpenBracket ∷ us) later
unfolding subscripts_terminals subscripts_actions
subscript_read end fs us later h =
    let q = joined h.1 (h.1).goes_on
    in let z = q.goes_on
    in (subscript_form h.0 z.0, after (λ r. sign_terminal sign.OpenBracket ∷ r) (λ r. r) (joined q z.1))

no_subscripts : (end : List Terminal) (fs : List Frame) (us : List Terminal) (later : List Action) → Stands end focus.Unary fs us later → FromSubscripted (want fs) (Filled end fs) us later
unfolding subscripts_terminals subscripts_actions
no_subscripts end fs us later h = (no_subscript, record { left = us; later = later; reads = refl; does = refl; goes_on = h })

pub subscripted_carries : (end : List Terminal) (fs : List Frame) (ts : List Terminal) → Carries end (subscripted_move fs ts) ts (λ acts. Stands end focus.Subscripted fs ts acts)
subscripted_carries end fs (sign_terminal sign.OpenBracket ∷ us) = λ later h. subscript_read end fs us later h
subscripted_carries end fs ts = λ later h. no_subscripts end fs ts later h

-- behind a unary operand
pub unary_carries : (end : List Terminal) (fs : List Frame) (ts : List Terminal) → Carries end (unary_move fs ts) ts (λ acts. Stands end focus.Unary fs ts acts)
unary_carries end (frame.Prefix p ∷ fs) ts = λ later h. record { left = ts; later = later; reads = refl; does = refl; goes_on = h }
unary_carries end fs ts = λ later h. h

-- behind a chain of `||`
nul_goes_on : (end : List Terminal) (fs : List Frame) (us : List Terminal) (later : List Action) → Stands end focus.Begin (frame.Coalesce ∷ fs) us later
    → FromChain (want fs) (Filled end fs) (sign_terminal sign.Coalesce ∷ us) later
nul_goes_on end fs us later h = (goes_nul h.0, after (λ r. sign_terminal sign.Coalesce ∷ r) (λ r. r) (joined h.1 (h.1).goes_on))

nul_ends : (end : List Terminal) (fs : List Frame) (us : List Terminal) (later : List Action) → Stands end focus.Coalesced fs us later → FromChain (want fs) (Filled end fs) us later
nul_ends end fs us later h = (end_of_nul, record { left = us; later = later; reads = refl; does = refl; goes_on = h })

pub chain_carries : (end : List Terminal) (fs : List Frame) (ts : List Terminal) → Carries end (coalesce_move fs ts) ts (λ acts. Stands end focus.Chain fs ts acts)
chain_carries end fs (sign_terminal sign.Coalesce ∷ us) = λ later h. nul_goes_on end fs us later h
chain_carries end fs ts = λ later h. nul_ends end fs ts later h

-- behind a condition
short_goes_on : (end : List Terminal) (fs : List Frame) (us : List Terminal) (later : List Action) → Stands end focus.Begin (frame.ShortChoice ∷ fs) us later
    → Reads choice_tail_terminals choice_tail_actions (FromWhole (want fs) (Filled end fs)) (sign_terminal sign.Question ∷ sign_terminal sign.Colon ∷ us) later
short_goes_on end fs us later h = (short_tail h.0, after (λ r. sign_terminal sign.Question ∷ sign_terminal sign.Colon ∷ r) (λ r. r) (joined h.1 (h.1).goes_on))

full_goes_on : (end : List Terminal) (fs : List Frame) (us : List Terminal) (later : List Action) → Stands end focus.Begin (frame.Middle ∷ fs) us later
    → Reads choice_tail_terminals choice_tail_actions (FromWhole (want fs) (Filled end fs)) (sign_terminal sign.Question ∷ us) later
full_goes_on end fs us later h =
    let z = (h.1).goes_on in (full_tail h.0 z.0, after (λ r. sign_terminal sign.Question ∷ r) (λ r. r) (joined h.1 z.1))

choice_ends : (end : List Terminal) (fs : List Frame) (us : List Terminal) (later : List Action) → Stands end focus.Whole fs us later
    → Reads choice_tail_terminals choice_tail_actions (FromWhole (want fs) (Filled end fs)) us later
choice_ends end fs us later h = (end_of_choice, record { left = us; later = later; reads = refl; does = refl; goes_on = h })

question_carries : (end : List Terminal) (fs : List Frame) (ts : List Terminal) → Carries end (question_move fs ts) ts (λ acts. Reads choice_tail_terminals choice_tail_actions (FromWhole (want fs) (Filled end fs)) ts acts)
question_carries end fs (sign_terminal sign.Question ∷ sign_terminal sign.Colon ∷ us) = λ later h. short_goes_on end fs us later h
question_carries end fs (sign_terminal sign.Question ∷ us) = λ later h. full_goes_on end fs us later h
question_carries end fs ts = λ later h. choice_ends end fs ts later h

-- behind a chain of `??`
pub coalesced_carries : (end : List Terminal) (fs : List Frame) (ts : List Terminal) → Carries end (choice_move fs ts) ts (λ acts. Stands end focus.Coalesced fs ts acts)
coalesced_carries end (frame.Coalesce ∷ fs) ts = λ later h. record { left = ts; later = later; reads = refl; does = refl; goes_on = h }
coalesced_carries end (frame.ShortChoice ∷ fs) ts = λ later h. record { left = ts; later = later; reads = refl; does = refl; goes_on = h }
coalesced_carries end (frame.FullChoice ∷ fs) ts = λ later h. record { left = ts; later = later; reads = refl; does = refl; goes_on = h }
coalesced_carries end fs ts = question_carries end fs ts
