-- The moves in an array, by whether its brackets are closed next; and what stands behind the further arguments of a call.
use Rattle.std.proofs.Common.{◌≡◌, ℕ, ◌+◌, Bool, true, false, List, [], ◌∷◌, ap, sym, ◌∙◌}
use Rattle.std.specs.Prelude.{Option, Some, None, MatchOption, if◌then◌else◌}
use Rattle.php_syntax.specs.declared.token.Sign.TheVariants as sign
use Rattle.script_grammar.specs.Terminals.{Terminal, sign_terminal}
use Rattle.expr_machine.specs.declared.frame.Brackets.{Brackets}
use Rattle.expr_machine.specs.declared.frame.Focus.TheVariants as focus
use Rattle.expr_machine.specs.declared.frame.Frame.{Frame}
use Rattle.expr_machine.specs.declared.frame.Frame.TheVariants as frame
use Rattle.expr_machine.specs.Actions.{array_action}
use Rattle.expr_machine.specs.Machine.{moves, closed_next, behind, array_move, item_actions, item_end_move, next_item_move}

pub array_closed : (b : Brackets) (fs : List Frame) (ts : List Terminal) → closed_next b ts ≡ true → array_move b fs ts ≡ moves focus.Unary fs (behind ts) (array_action 0 ∷ [])
array_closed b fs ts e = ap (λ x. if x then moves focus.Unary fs (behind ts) (array_action 0 ∷ []) else moves focus.Begin (frame.Item b 0 ∷ fs) ts []) e

pub array_open : (b : Brackets) (fs : List Frame) (ts : List Terminal) → closed_next b ts ≡ false → array_move b fs ts ≡ moves focus.Begin (frame.Item b 0 ∷ fs) ts []
array_open b fs ts e = ap (λ x. if x then moves focus.Unary fs (behind ts) (array_action 0 ∷ []) else moves focus.Begin (frame.Item b 0 ∷ fs) ts []) e

comma_by : (b : Brackets) (keyed : Bool) (n : ℕ) (fs : List Frame) (r : List Terminal) (x : Bool) → closed_next b r ≡ x → next_item_move b keyed n fs (sign_terminal sign.Comma ∷ r) ≡ (if x then moves focus.Unary fs (behind r) (item_actions keyed (array_action (n + 1) ∷ [])) else moves focus.Begin (frame.Item b (n + 1) ∷ fs) r (item_actions keyed []))
comma_by b keyed n fs r x e = ap (λ y. if y then moves focus.Unary fs (behind r) (item_actions keyed (array_action (n + 1) ∷ [])) else moves focus.Begin (frame.Item b (n + 1) ∷ fs) r (item_actions keyed [])) e

-- with the next count by its name
pub comma_closed : (b : Brackets) (keyed : Bool) (n more : ℕ) (fs : List Frame) (r s : List Terminal) → more ≡ n + 1 → s ≡ behind r → closed_next b r ≡ true → next_item_move b keyed n fs (sign_terminal sign.Comma ∷ r) ≡ moves focus.Unary fs s (item_actions keyed (array_action more ∷ []))
comma_closed b keyed n more fs r s p q e = comma_by b keyed n fs r true e ∙ ap (λ x. moves focus.Unary fs (behind r) (item_actions keyed (array_action x ∷ []))) (sym p) ∙ ap (λ x. moves focus.Unary fs x (item_actions keyed (array_action more ∷ []))) (sym q)

pub comma_open : (b : Brackets) (keyed : Bool) (n more : ℕ) (fs : List Frame) (r : List Terminal) → more ≡ n + 1 → closed_next b r ≡ false → next_item_move b keyed n fs (sign_terminal sign.Comma ∷ r) ≡ moves focus.Begin (frame.Item b more ∷ fs) r (item_actions keyed [])
comma_open b keyed n more fs r p e = comma_by b keyed n fs r false e ∙ ap (λ x. moves focus.Begin (frame.Item b x ∷ fs) r (item_actions keyed [])) (sym p)

end_by : (b : Brackets) (keyed : Bool) (n : ℕ) (fs : List Frame) (ts : List Terminal) (x : Bool) → closed_next b ts ≡ x → item_end_move b keyed n fs ts ≡ (if x then moves focus.Unary fs (behind ts) (item_actions keyed (array_action (n + 1) ∷ [])) else next_item_move b keyed n fs ts)
end_by b keyed n fs ts x e = ap (λ y. if y then moves focus.Unary fs (behind ts) (item_actions keyed (array_action (n + 1) ∷ [])) else next_item_move b keyed n fs ts) e

pub end_closed : (b : Brackets) (keyed : Bool) (n more : ℕ) (fs : List Frame) (ts s : List Terminal) → more ≡ n + 1 → s ≡ behind ts → closed_next b ts ≡ true → item_end_move b keyed n fs ts ≡ moves focus.Unary fs s (item_actions keyed (array_action more ∷ []))
end_closed b keyed n more fs ts s p q e = end_by b keyed n fs ts true e ∙ ap (λ x. moves focus.Unary fs (behind ts) (item_actions keyed (array_action x ∷ []))) (sym p) ∙ ap (λ x. moves focus.Unary fs x (item_actions keyed (array_action more ∷ []))) (sym q)

pub end_open : (b : Brackets) (keyed : Bool) (n : ℕ) (fs : List Frame) (ts : List Terminal) → closed_next b ts ≡ false → item_end_move b keyed n fs ts ≡ next_item_move b keyed n fs ts
end_open b keyed n fs ts e = end_by b keyed n fs ts false e

-- an answer that is passed on
pub passed_rest : {A : Type 0} (f : A → List Terminal) (result : Option A) (x y : Option (List Terminal)) → x ≡ y → MatchOption result (y ≡ None) (λ r. y ≡ Some (f r)) → MatchOption result (x ≡ None) (λ r. x ≡ Some (f r))
passed_rest f None x y e h = e ∙ h
passed_rest f (Some r) x y e h = e ∙ h
