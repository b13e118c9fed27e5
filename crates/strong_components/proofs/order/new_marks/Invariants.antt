use Rattle.std.proofs.Common.{◌≡◌, ◌<◌, ℕ, Some, slice_get, length}
use Rattle.strong_components.specs.declared.order.Mark.TheVariants.{New}
use Rattle.strong_components.proofs.order.new_marks.Given as goal

abbrev pub invariant-loop-edge : goal.invariant-loop-edge
invariant-loop-edge l = (length l.marks.items ≡ l._edge-index)
    × ((node : ℕ) → node < length l.marks.items → slice_get l.marks.items node ≡ Some New)
