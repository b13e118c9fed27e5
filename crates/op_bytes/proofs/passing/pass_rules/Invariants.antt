use Rattle.op_bytes.specs.Work.{Grows, GivesRule}
use Rattle.op_bytes.proofs.passing.pass_rules.Given as goal

abbrev pub invariant-loop-place : goal.invariant-loop-place
invariant-loop-place l = Grows l.initial.sets.items l.initial.order.items (GivesRule l.rules l.places l.place-index l.own) l.sets.items l.order.items
