use Rattle.op_bytes.specs.Work.{AreNumbersBelow}
use Rattle.op_bytes.proofs.sets.all_numbers.Given as goal

abbrev pub invariant-loop-n : goal.invariant-loop-n
invariant-loop-n l = AreNumbersBelow l.n l.order.items
