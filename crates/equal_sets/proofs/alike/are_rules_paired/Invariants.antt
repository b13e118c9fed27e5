use Rattle.std.proofs.Common.{◌≡◌, ◌<◌, ℕ, Some, slice_get}
use Rattle.equal_sets.specs.Alike.{AreSameAt}
use Rattle.equal_sets.proofs.alike.are_rules_paired.Given as goal

abbrev pub invariant-loop-k : goal.invariant-loop-k
invariant-loop-k l = (m i j : ℕ) → m < l.k → slice_get l.xs m ≡ Some i → slice_get l.ys m ≡ Some j → AreSameAt l.rows.system.now l.sets i j
