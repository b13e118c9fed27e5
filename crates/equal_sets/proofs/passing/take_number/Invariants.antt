use Rattle.std.proofs.Common.{◌+◌, length, if◌then◌else◌, nat_lt}
use Rattle.equal_sets.specs.Fit.{IsSoFar}
use Rattle.equal_sets.proofs.passing.take_number.Given as goal

abbrev pub invariant-loop-next : goal.invariant-loop-next
invariant-loop-next l = IsSoFar l.rows l.sets.of.items l.sets.done.items

abbrev pub decreases-loop-next : goal.decreases-loop-next
decreases-loop-next l = if nat_lt l.place (length l.chains.before.items) then l.place + 1 else 0
