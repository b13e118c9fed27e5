use Rattle.std.proofs.Common.{arith}
use Rattle.ssa_form.proofs.ReadLemmas.{one_more}
use Rattle.ssa_form.proofs.marks.read_all.Goals as goal

pub loop-slot-preserved : goal.loop-slot-preserved
loop-slot-preserved c =
    one_more c.args.marks.now c.loop-slot.marks c.read.new.marks c.args.head c.args.point c.args.slots.now c.loop-slot.slot-index _ (omega arith) c.loop-slot.invariant c.in_ok-read.ensures
