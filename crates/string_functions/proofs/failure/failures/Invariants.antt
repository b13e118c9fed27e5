use Rattle.string_functions.specs.Failure.{AreFailures}
use Rattle.string_functions.proofs.failure.failures.Given as goal

abbrev pub invariant-loop-at : goal.invariant-loop-at
invariant-loop-at l = AreFailures l.pattern l.failures.items l.at
