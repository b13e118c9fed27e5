use Rattle.std.proofs.Common.{◌≡◌, ◌<◌, ℕ, Some, slice_get}
use Rattle.equal_sets.specs.Alike.{AreAlikeAt}
use Rattle.equal_sets.proofs.alike.are_rights_paired.Given as goal

abbrev pub invariant-loop-k : goal.invariant-loop-k
invariant-loop-k l = (m i j : ℕ) → m < l.k → slice_get l.xs m ≡ Some i → slice_get l.ys m ≡ Some j
    → AreAlikeAt l.rows.system.now.grammar.productions.items l.sets i j
