use Rattle.std.proofs.Common.{◌≡◌, ◌<◌, ℕ, Some, slice_get}
use Rattle.strong_components.specs.declared.order.Mark.TheVariants.{Open, Done}
use Rattle.strong_components.specs.Walk.{IsWalk}
use Rattle.strong_components.proofs.order.order_of.Given as goal

abbrev pub invariant-loop-node : goal.invariant-loop-node
invariant-loop-node l = IsWalk l.edges l.marks.items l.order.items
    × ((k : ℕ) → slice_get l.marks.items k ≡ Some Open → ⊥)
    × ((k : ℕ) → k < l.node → slice_get l.marks.items k ≡ Some Done)
