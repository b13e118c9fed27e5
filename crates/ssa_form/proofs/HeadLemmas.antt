-- Points in a row with the same first point.
use Rattle.std.proofs.Common.{◌≡◌, ◌≤◌, ◌<◌, ◌⊎◌, inl, inr, ℕ, zero, suc, List, Some, sym, subst, arith, slice_get}
use Rattle.std.proofs.Math.Nat.{eq-or-lt_of_le}
use Rattle.flow_graph.specs.declared.arrivals.Arrival.{Arrival}
use Rattle.flow_graph.specs.Steps.{PlainStep}
use Rattle.flow_graph.specs.Heads.{AreHeads}

module _ (steps : List PlainStep) (all : List (ℕ × Arrival)) (heads : List ℕ) (are : AreHeads steps all heads) where
  pub contiguous : (q h r : ℕ) → slice_get heads q ≡ Some h → h ≤ r → r ≤ q → slice_get heads r ≡ Some h
  contiguous zero h r e a b = subst (λ z. slice_get heads z ≡ Some h) (omega arith) e
  contiguous (suc p) h r e a b = by (eq-or-lt_of_le b) (λ f g. contiguous p h r f a g)
    where
      by : (r ≡ suc p) ⊎ (r < suc p) → (slice_get heads p ≡ Some h → r ≤ p → slice_get heads r ≡ Some h) → slice_get heads r ≡ Some h
      by (inl same) on = subst (λ z. slice_get heads z ≡ Some h) (sym same) e
      by (inr less) on = on (are.goes p h e (λ k. omega arith)).0 (omega arith)

  pub is_first : (q h : ℕ) → slice_get heads q ≡ Some h → slice_get heads h ≡ Some h
  is_first q h e = contiguous q h h e (omega arith) (are.before q h e)
