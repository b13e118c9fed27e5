-- The moves behind a variable and its keys carry what stands behind them.
use Rattle.std.proofs.Common.{◌≡◌, sym, ◌==◌, ℕ, ◌+◌, Bool, true, false, List, [], ◌∷◌, refl, ap, subst, Option, Some, None, arith}
use Rattle.std.proofs.lemmas.Bool.Decides.{Decides-eqb}
use Rattle.php_syntax.specs.declared.token.Sign.{Sign}
use Rattle.php_syntax.specs.declared.token.Sign.TheVariants as sign
use Rattle.php_syntax.specs.declared.tree.UpdateSign.{UpdateSign}
use Rattle.script_grammar.specs.Operators.{update_sign, step_sign}
use Rattle.script_grammar.specs.Terminals.{Terminal, sign_terminal}
use Rattle.script_grammar.specs.Expressions.{ExprForm, expr_terminals, no_key_form, open_key_form, key_form, keys_terminals, no_subscript, subscript_form, subscripts_terminals}
use Rattle.expr_machine.specs.declared.frame.Focus.TheVariants as focus
use Rattle.expr_machine.specs.declared.frame.Frame.{Frame}
use Rattle.expr_machine.specs.declared.frame.Frame.TheVariants as frame
use Rattle.expr_machine.specs.Actions.{Action, absent_action, read_action, assign_action, update_action, step_action}
use Rattle.expr_machine.specs.Machine.{moves, wanted_rank, operand_move, key_move, updated_move, placed_move, place_move}
use Rattle.expr_machine.specs.Postfix.{expr_actions, target_keys_actions, keys_count, keys_of_actions, subscripts_count}
use Rattle.expr_laws.proofs.Shapes.{Rest, Ahead, Reads, joined, after, respelled, refilled}
use Rattle.expr_laws.proofs.Stands.{Want, wants_expr, want, PlaceTail, read_tail, step_tail, place_tail_terminals, place_tail_actions, TargetTail, assign_tail, update_tail, target_tail_terminals, target_tail_actions, FromWhole, FromPlace, is_operand, is_target, Filled, Stands, Carries}
use Rattle.expr_laws.proofs.Climbing.{false_true}
use Rattle.expr_laws.proofs.Tests.{carry_test, wants_whole}

plus_none : (n : ℕ) → n ≡ n + 0
plus_none n = omega arith

plus_more : (n m : ℕ) → n + 1 + m ≡ n + (1 + m)
plus_more n m = omega arith

not_none : (n : ℕ) {X : Type 0} → n + 1 ≡ 0 → X
not_none n e = absurd (omega (arith, e))

not_both : {X : Type 0} → true ≡ false → X
not_both e = absurd (false_true (sym e))

-- a target with one more key before the others that is left out
target_opened : (x : List ℕ) (n : ℕ) (t : TargetTail) {k : Rest} {us : List Terminal} {later : List Action} → Ahead (target_tail_terminals t) (target_tail_actions x (n + 1) t) k us later
    → Reads target_tail_terminals (target_tail_actions x n) k (sign_terminal sign.OpenBracket ∷ sign_terminal sign.CloseBracket ∷ us) (absent_action ∷ later)
unfolding keys_terminals target_keys_actions
target_opened x n (assign_tail ks e) p =
    (assign_tail (open_key_form ks) e, respelled (λ r. absent_action ∷ target_keys_actions ks (expr_actions e (assign_action x (n + (1 + keys_count ks)) ∷ r))) (λ r. ap (λ m. absent_action ∷ target_keys_actions ks (expr_actions e (assign_action x m ∷ r))) (plus_more n (keys_count ks))) (after (λ r. sign_terminal sign.OpenBracket ∷ sign_terminal sign.CloseBracket ∷ r) (λ r. absent_action ∷ r) p))
target_opened x n (update_tail ks s u is e) p =
    (update_tail (open_key_form ks) s u is e, respelled (λ r. absent_action ∷ target_keys_actions ks (expr_actions e (update_action u x (n + (1 + keys_count ks)) ∷ r))) (λ r. ap (λ m. absent_action ∷ target_keys_actions ks (expr_actions e (update_action u x m ∷ r))) (plus_more n (keys_count ks))) (after (λ r. sign_terminal sign.OpenBracket ∷ sign_terminal sign.CloseBracket ∷ r) (λ r. absent_action ∷ r) p))

-- no operand has a key that is left out, or a step behind a key
no_operand : (n : ℕ) {X : Type 0} → PlaceTail (n + 1) true → X
no_operand n (read_tail is ks) = not_both is
no_operand n (step_tail none s up is) = not_none n none

opened : (x : List ℕ) (n : ℕ) (gap : Bool) (w : Want) (k : Rest) (us : List Terminal) (later : List Action) → FromPlace x (n + 1) true w k us later
    → FromPlace x n gap w k (sign_terminal sign.OpenBracket ∷ sign_terminal sign.CloseBracket ∷ us) (absent_action ∷ later)
opened x n gap w k us later (is_operand t) = no_operand n t.0
opened x n gap w k us later (is_target wanted t) = is_target wanted (target_opened x n t.0 t.1)

-- a key before the others
target_keyed : (x : List ℕ) (n : ℕ) (e : ExprForm) (t : TargetTail) {k : Rest} {us : List Terminal} {later : List Action}
    → Ahead (λ r. expr_terminals e (sign_terminal sign.CloseBracket ∷ target_tail_terminals t r)) (λ r. expr_actions e (target_tail_actions x (n + 1) t r)) k us later
    → Reads target_tail_terminals (target_tail_actions x n) k (sign_terminal sign.OpenBracket ∷ us) later
unfolding keys_terminals target_keys_actions
target_keyed x n key (assign_tail ks e) p =
    (assign_tail (key_form key ks) e, respelled (λ r. expr_actions key (target_keys_actions ks (expr_actions e (assign_action x (n + (1 + keys_count ks)) ∷ r)))) (λ r. ap (λ m. expr_actions key (target_keys_actions ks (expr_actions e (assign_action x m ∷ r)))) (plus_more n (keys_count ks))) (after (λ r. sign_terminal sign.OpenBracket ∷ r) (λ r. r) p))
target_keyed x n key (update_tail ks s u is e) p =
    (update_tail (key_form key ks) s u is e, respelled (λ r. expr_actions key (target_keys_actions ks (expr_actions e (update_action u x (n + (1 + keys_count ks)) ∷ r)))) (λ r. ap (λ m. expr_actions key (target_keys_actions ks (expr_actions e (update_action u x m ∷ r)))) (plus_more n (keys_count ks))) (after (λ r. sign_terminal sign.OpenBracket ∷ r) (λ r. r) p))

operand_keyed : (x : List ℕ) (n : ℕ) (gap : Bool) (e : ExprForm) (t : PlaceTail (n + 1) gap) {k : Rest} {us : List Terminal} {later : List Action}
    → Ahead (λ r. expr_terminals e (sign_terminal sign.CloseBracket ∷ place_tail_terminals t r)) (λ r. expr_actions e (place_tail_actions x t r)) k us later
    → Reads {X = PlaceTail n gap} place_tail_terminals (place_tail_actions x) k (sign_terminal sign.OpenBracket ∷ us) later
unfolding subscripts_terminals keys_of_actions
operand_keyed x n gap key (read_tail is ks) p =
    (read_tail is (subscript_form key ks), respelled (λ r. expr_actions key (keys_of_actions ks (read_action x (n + (1 + subscripts_count ks)) ∷ r))) (λ r. ap (λ m. expr_actions key (keys_of_actions ks (read_action x m ∷ r))) (plus_more n (subscripts_count ks))) (after (λ r. sign_terminal sign.OpenBracket ∷ r) (λ r. r) p))
operand_keyed x n gap key (step_tail none s up is) p = not_none n none

keyed : (x : List ℕ) (n : ℕ) (gap : Bool) (w : Want) (k : Rest) (us : List Terminal) (later : List Action) (e : ExprForm) {j : Rest}
    → (p : Ahead (λ r. expr_terminals e (sign_terminal sign.CloseBracket ∷ r)) (λ r. expr_actions e r) j us later) → FromPlace x (n + 1) gap w k p.left p.later → FromPlace x n gap w k (sign_terminal sign.OpenBracket ∷ us) later
keyed x n gap w k us later e p (is_operand t) = is_operand (operand_keyed x n gap e t.0 (joined p t.1))
keyed x n gap w k us later e p (is_target wanted t) = is_target wanted (target_keyed x n e t.0 (joined p t.1))

key_read : (end : List Terminal) (x : List ℕ) (n : ℕ) (gap : Bool) (fs : List Frame) (us : List Terminal) (later : List Action) → Stands end focus.Begin (frame.Key x n gap ∷ fs) us later
    → Stands end (focus.Place x n gap) fs (sign_terminal sign.OpenBracket ∷ us) later
key_read end x n gap fs us later h = let p = joined h.1 (h.1).goes_on in keyed x n gap (want fs) (Filled end fs) us later h.0 p p.goes_on

key_carries : (end : List Terminal) (x : List ℕ) (n : ℕ) (gap : Bool) (fs : List Frame) (us : List Terminal) → Carries end (key_move x n gap fs us) (sign_terminal sign.OpenBracket ∷ us) (Stands end (focus.Place x n gap) fs (sign_terminal sign.OpenBracket ∷ us))
key_carries end x n gap fs (sign_terminal sign.CloseBracket ∷ us) = λ later h. opened x n gap (want fs) (Filled end fs) us later h
key_carries end x n gap fs us = λ later h. key_read end x n gap fs us later h

-- an operand that nothing goes on with
operand_carries : (end : List Terminal) (x : List ℕ) (n : ℕ) (gap : Bool) (fs : List Frame) (ts : List Terminal) → Carries end (operand_move x n gap fs ts) ts (Stands end (focus.Place x n gap) fs ts)
unfolding subscripts_terminals keys_of_actions
operand_carries end x n true fs ts = tt
operand_carries end x n false fs ts = λ later h. is_operand (read_tail refl no_subscript, record { left = ts; later = later; reads = refl; does = ap (λ m. read_action x m ∷ later) (plus_none n); goes_on = h })

-- an assignment
whole_wanted : (w : Want) (k : Rest) (us : List Terminal) (later : List Action) → w ≡ wants_expr → FromWhole w k us later → k us later
whole_wanted w k us later e h = subst (λ v. FromWhole v k us later) e h

assigned : (end : List Terminal) (x : List ℕ) (n : ℕ) (gap : Bool) (fs : List Frame) (us : List Terminal) → want fs ≡ wants_expr → (later : List Action) → Stands end focus.Begin (frame.Assign x n ∷ fs) us later
    → Stands end (focus.Place x n gap) fs (sign_terminal sign.Assign ∷ us) later
unfolding keys_terminals target_keys_actions
assigned end x n gap fs us wanted later h =
    let p = joined h.1 (h.1).goes_on
    in let q = refilled (Filled end fs) p (whole_wanted (want fs) (Filled end fs) p.left p.later wanted p.goes_on)
    in is_target wanted (assign_tail no_key_form h.0, respelled (λ r. expr_actions h.0 (assign_action x (n + 0) ∷ r)) (λ r. ap (λ m. expr_actions h.0 (assign_action x m ∷ r)) (plus_none n)) (after (λ r. sign_terminal sign.Assign ∷ r) (λ r. r) q))

updated : (end : List Terminal) (x : List ℕ) (n : ℕ) (gap : Bool) (fs : List Frame) (s : Sign) (u : UpdateSign) → update_sign s ≡ Some u → (us : List Terminal) → want fs ≡ wants_expr → (later : List Action) → Stands end focus.Begin (frame.Update u x n ∷ fs) us later
    → Stands end (focus.Place x n gap) fs (sign_terminal s ∷ us) later
unfolding keys_terminals target_keys_actions
updated end x n gap fs s u is us wanted later h =
    let p = joined h.1 (h.1).goes_on
    in let q = refilled (Filled end fs) p (whole_wanted (want fs) (Filled end fs) p.left p.later wanted p.goes_on)
    in is_target wanted (update_tail no_key_form s u is h.0, respelled (λ r. expr_actions h.0 (update_action u x (n + 0) ∷ r)) (λ r. ap (λ m. expr_actions h.0 (update_action u x m ∷ r)) (plus_none n)) (after (λ r. sign_terminal s ∷ r) (λ r. r) q))

stepped : (end : List Terminal) (x : List ℕ) (n : ℕ) (gap : Bool) (fs : List Frame) (s : Sign) (up : Bool) → step_sign s ≡ Some up → (us : List Terminal) → (n == 0) ≡ true → (later : List Action) → Stands end focus.Unary fs us later
    → Stands end (focus.Place x n gap) fs (sign_terminal s ∷ us) (step_action x up false ∷ later)
stepped end x n gap fs s up is us none later h = is_operand (step_tail ((Decides-eqb n 0).0 none) s up is, record { left = us; later = later; reads = refl; does = refl; goes_on = h })

updated_carries : (end : List Terminal) (q : Option UpdateSign) (step : Option Bool) (x : List ℕ) (n : ℕ) (gap : Bool) (fs : List Frame) (s : Sign) (us : List Terminal) → update_sign s ≡ q → step_sign s ≡ step
    → Carries end (updated_move q step x n gap fs s us) (sign_terminal s ∷ us) (Stands end (focus.Place x n gap) fs (sign_terminal s ∷ us))
updated_carries end (Some u) step x n gap fs s us is is' =
    carry_test end (sign_terminal s ∷ us) (Stands end (focus.Place x n gap) fs (sign_terminal s ∷ us)) (wanted_rank fs == 10) (moves focus.Begin (frame.Update u x n ∷ fs) us []) (operand_move x n gap fs (sign_terminal s ∷ us))
    (λ e. λ later h. updated end x n gap fs s u is us (wants_whole fs e) later h) (λ e. operand_carries end x n gap fs (sign_terminal s ∷ us))
updated_carries end None (Some up) x n gap fs s us is is' =
    carry_test end (sign_terminal s ∷ us) (Stands end (focus.Place x n gap) fs (sign_terminal s ∷ us)) (n == 0) (moves focus.Unary fs us (step_action x up false ∷ [])) (operand_move x n gap fs (sign_terminal s ∷ us))
    (λ e. λ later h. stepped end x n gap fs s up is' us e later h) (λ e. operand_carries end x n gap fs (sign_terminal s ∷ us))
updated_carries end None None x n gap fs s us is is' = operand_carries end x n gap fs (sign_terminal s ∷ us)

assign_carries : (end : List Terminal) (x : List ℕ) (n : ℕ) (gap : Bool) (fs : List Frame) (us : List Terminal)
    → Carries end (placed_move x n gap fs sign.Assign us) (sign_terminal sign.Assign ∷ us) (Stands end (focus.Place x n gap) fs (sign_terminal sign.Assign ∷ us))
assign_carries end x n gap fs us =
    carry_test end (sign_terminal sign.Assign ∷ us) (Stands end (focus.Place x n gap) fs (sign_terminal sign.Assign ∷ us)) (wanted_rank fs == 10) (moves focus.Begin (frame.Assign x n ∷ fs) us []) (operand_move x n gap fs (sign_terminal sign.Assign ∷ us))
    (λ e. λ later h. assigned end x n gap fs us (wants_whole fs e) later h) (λ e. operand_carries end x n gap fs (sign_terminal sign.Assign ∷ us))

placed_carries : (end : List Terminal) (x : List ℕ) (n : ℕ) (gap : Bool) (fs : List Frame) (s : Sign) (us : List Terminal)
    → Carries end (placed_move x n gap fs s us) (sign_terminal s ∷ us) (Stands end (focus.Place x n gap) fs (sign_terminal s ∷ us))
placed_carries end x n gap fs sign.OpenBracket us = key_carries end x n gap fs us
placed_carries end x n gap fs sign.Assign us = assign_carries end x n gap fs us
placed_carries end x n gap fs s us = updated_carries end (update_sign s) (step_sign s) x n gap fs s us refl refl

pub place_carries : (end : List Terminal) (x : List ℕ) (n : ℕ) (gap : Bool) (fs : List Frame) (ts : List Terminal) → Carries end (place_move x n gap fs ts) ts (Stands end (focus.Place x n gap) fs ts)
place_carries end x n gap fs (sign_terminal s ∷ us) = placed_carries end x n gap fs s us
place_carries end x n gap fs ts = operand_carries end x n gap fs ts
