use Rattle.script_decision.proofs.shortest_checking.check_shortest.Goals as goal

pub shortest_from-requires : goal.shortest_from-requires
shortest_from-requires c = rw c.in-Ok-No.field-0-is at c.in-Ok-No.ensures.answer

pub returns-in-Ok-Yes-clause-answer : goal.returns-in-Ok-Yes-clause-answer
returns-in-Ok-Yes-clause-answer c = rw c.in-Ok-Yes.field-0-is at c.in-Ok-Yes.ensures.answer

pub returns-in-Ok-Yes-clause-sound : goal.returns-in-Ok-Yes-clause-sound
returns-in-Ok-Yes-clause-sound c = rw c.in-Ok-Yes.field-0-is at c.in-Ok-Yes.ensures.sound
