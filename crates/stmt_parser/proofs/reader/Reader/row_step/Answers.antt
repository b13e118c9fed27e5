use Rattle.std.proofs.Common.{ap}
use Rattle.expr_parser.specs.Heads.{terminals_of}
use Rattle.stmt_builder.specs.Views.{made_of}
use Rattle.stmt_parser.specs.Outcomes.{acted}
use Rattle.stmt_parser.proofs.ReadLemmas.{on_ok}
use Rattle.stmt_parser.proofs.TestLemmas.{row_on, row_ends}
use Rattle.stmt_parser.proofs.reader.Reader.row_step.Goals as goal

pub returns-in-Some : goal.returns-in-Some
returns-in-Some c = on_ok _ c.row_end_step.result (ap (λ x. acted x (made_of c.args.self.now.maker)) (row_ends c.args.row c.args.count c.args.self.now.frames (terminals_of c.args.rest.now) (terminals_of c.in-Some.last.now) c.in-Some.ensures.0 c.in-Some.ensures.1)) c.row_end_step.ensures

pub returns-in-None : goal.returns-in-None
returns-in-None c = on_ok _ c.more_step.result (ap (λ x. acted x (made_of c.args.self.now.maker)) (row_on c.args.row c.args.count c.args.self.now.frames (terminals_of c.args.rest.now) c.in-None.ensures)) c.more_step.ensures
