use Rattle.std.proofs.Common.{◌≡◌, ◌++◌, drop}
use Rattle.flow_graph.specs.Steps.{numbers}
use Rattle.flow_graph.proofs.reads.of_slots.Given as goal

abbrev pub invariant-loop-slot : goal.invariant-loop-slot
invariant-loop-slot l = numbers l.reads.items ++ numbers (drop l.slot-index l.slots) ≡ numbers l.initial.reads.items ++ numbers l.slots
