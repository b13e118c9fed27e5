use Rattle.std.proofs.Common.{arith}
use Rattle.dtd_model.specs.TableOf.{table_of}
use Rattle.program_rules.specs.View.{program_of}
use Rattle.script_decision.proofs.ShortestLemmas.{known_shortest}
use Rattle.script_decision.proofs.shortest_checking.shortest_from.Goals as goal

pub returns-in-Ok-Good-clause-answer : goal.returns-in-Ok-Good-clause-answer
returns-in-Ok-Good-clause-answer c =
    known_shortest c.args.goal (table_of c.args.dtd.now) (program_of c.args.program.now) c.args.known _ c.requires (omega arith) (rw c.in-Ok-Good.field-0-is at c.in-Ok-Good.ensures.below)

pub returns-in-Ok-Bad-clause-answer : goal.returns-in-Ok-Bad-clause-answer
returns-in-Ok-Bad-clause-answer c = rw c.in-Ok-Bad.field-0-is at c.in-Ok-Bad.ensures.below
