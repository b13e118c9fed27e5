use Rattle.std.proofs.Common.{take}
use Rattle.flow_graph.specs.Steps.{numbers}
use Rattle.ssa_form.specs.Marks.{Reads}
use Rattle.ssa_form.proofs.marks.read_all.Given as goal

abbrev pub invariant-loop-slot : goal.invariant-loop-slot
invariant-loop-slot l = Reads l.initial.marks l.marks l.head l.point (numbers (take l.slot-index l.slots))
