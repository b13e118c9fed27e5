use Rattle.std.proofs.Common.{ap}
use Rattle.expr_parser.specs.Heads.{terminals_of}
use Rattle.stmt_builder.specs.Views.{made_of}
use Rattle.stmt_machine.specs.Machine.{condition_at}
use Rattle.stmt_parser.specs.Outcomes.{reads_as}
use Rattle.stmt_parser.proofs.OtherLemmas.{no_condition}
use Rattle.stmt_parser.proofs.ReadLemmas.{same_reads}
use Rattle.stmt_parser.proofs.reader.Reader.read_condition.Goals as goal

pub returns-in_default : goal.returns-in_default
returns-in_default c = λ next. ap (λ x. reads_as x (made_of c.args.self.now.maker) (next c.args.self.now.frames)) (no_condition (terminals_of c.args.rest.now) c.in_default.ensures)

pub returns : goal.returns
returns c = same_reads c.args.self.now c.read_ended.result c.read_ended.new.self (ap condition_at c.in-Some.ensures) c.read_ended.ensures
