use Rattle.op_bytes.specs.Work.{Gains, HasLiteral}
use Rattle.op_bytes.proofs.beginning.add_literals.Given as goal

abbrev pub invariant-loop-rule : goal.invariant-loop-rule
invariant-loop-rule l = Gains l.initial.sets.items (HasLiteral l.rules l.rule-index) l.sets.items
