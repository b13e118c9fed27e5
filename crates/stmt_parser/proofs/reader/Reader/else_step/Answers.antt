use Rattle.std.proofs.Common.{ap}
use Rattle.expr_parser.specs.Heads.{terminals_of}
use Rattle.stmt_builder.specs.Views.{made_of}
use Rattle.stmt_machine.specs.Machine.{else_move}
use Rattle.stmt_parser.specs.Outcomes.{acted}
use Rattle.stmt_parser.proofs.OtherLemmas.{else_plain}
use Rattle.stmt_parser.proofs.ReadLemmas.{on_ok}
use Rattle.stmt_parser.proofs.reader.Reader.else_step.Goals as goal

pub returns-in-Some : goal.returns-in-Some
returns-in-Some c = on_ok _ c.else_if_step.result (ap (λ ts. acted (else_move c.args.count c.args.self.now.frames ts) (made_of c.args.self.now.maker)) c.in-Some.ensures) c.else_if_step.ensures

pub returns-in-None : goal.returns-in-None
returns-in-None c = on_ok _ c.open_body.result (ap (λ x. acted x (made_of c.args.self.now.maker)) (else_plain c.args.count c.args.self.now.frames (terminals_of c.args.rest.now) c.in-None.ensures)) c.open_body.ensures
