use Rattle.string_functions.proofs.FailureLemmas.{Shortened}
use Rattle.string_functions.proofs.failure.next_failure.Given as goal

abbrev pub invariant-loop-part : goal.invariant-loop-part
invariant-loop-part l = Shortened l.pattern l.at l.part

abbrev pub decreases-loop-part : goal.decreases-loop-part
decreases-loop-part l = l.part
