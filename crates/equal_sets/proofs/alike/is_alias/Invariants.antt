use Rattle.std.proofs.Common.{◌≡◌, ◌<◌, ℕ, Some, slice_get}
use Rattle.equal_sets.specs.Alike.{LeadsLower}
use Rattle.equal_sets.proofs.alike.is_alias.Given as goal

abbrev pub invariant-loop-place : goal.invariant-loop-place
invariant-loop-place l = (m i : ℕ) → m < l.place-index → slice_get l.places m ≡ Some i
    → LeadsLower l.rows.system.now l.rows.numbers.items l.sets l.a l.b i
