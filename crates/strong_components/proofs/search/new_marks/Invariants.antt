use Rattle.std.proofs.Common.{◌≡◌, ◌<◌, ℕ, length, Some, slice_get}
use Rattle.smallvec.specs.SmallVec.{SmallVec}
use Rattle.strong_components.specs.declared.marks.Mark.TheVariants.{New}
use Rattle.strong_components.proofs.search.new_marks.Given as goal

abbrev pub invariant-loop-targets : goal.invariant-loop-targets
invariant-loop-targets l = record {
  size : length l.marks.items ≡ l.targets-index;
  each : (u : ℕ) (targets : SmallVec ℕ) → u < l.targets-index → slice_get l.edges u ≡ Some targets → slice_get l.marks.items u ≡ Some (New (length targets.items));
}
