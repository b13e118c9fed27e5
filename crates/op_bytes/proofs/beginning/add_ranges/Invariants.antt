use Rattle.op_bytes.specs.Work.{Gains, HasRange}
use Rattle.op_bytes.proofs.beginning.add_ranges.Given as goal

abbrev pub invariant-loop-p : goal.invariant-loop-p
invariant-loop-p l = Gains l.initial.sets.items (HasRange l.productions l.p-index) l.sets.items
