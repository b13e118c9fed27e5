use Rattle.equal_sets.specs.Fit.{IsSoFar}
use Rattle.equal_sets.proofs.passing.all_sets.Given as goal

abbrev pub invariant-loop-number : goal.invariant-loop-number
invariant-loop-number l = IsSoFar l.rows l.sets.of.items l.sets.done.items
