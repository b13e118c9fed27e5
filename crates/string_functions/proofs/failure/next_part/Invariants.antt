use Rattle.string_functions.proofs.FailureLemmas.{Falling}
use Rattle.string_functions.proofs.failure.next_part.Given as goal

abbrev pub invariant-loop-part : goal.invariant-loop-part
invariant-loop-part l = Falling l.pattern l.at l.byte l.part

abbrev pub decreases-loop-part : goal.decreases-loop-part
decreases-loop-part l = l.part
