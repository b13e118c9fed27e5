use Rattle.std.proofs.Common.{◌-◌}
use Rattle.op_bytes.specs.Work.{IsWork}
use Rattle.op_bytes.proofs.sets.byte_sets.Given as goal

abbrev pub invariant-loop-x : goal.invariant-loop-x
invariant-loop-x l = IsWork l.s l.sets.items l.order.items l.taken

abbrev pub decreases-loop-x : goal.decreases-loop-x
decreases-loop-x l = 18446744073709551616 - l.taken
