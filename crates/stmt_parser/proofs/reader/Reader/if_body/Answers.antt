use Rattle.std.proofs.Common.{ap}
use Rattle.expr_parser.specs.Heads.{terminals_of}
use Rattle.stmt_builder.specs.Views.{made_of}
use Rattle.stmt_parser.specs.Nexts.{if_next}
use Rattle.stmt_parser.specs.Outcomes.{acted}
use Rattle.stmt_parser.proofs.ReadLemmas.{on_ok}
use Rattle.stmt_parser.proofs.TestLemmas.{if_plain}
use Rattle.stmt_parser.proofs.reader.Reader.if_body.Goals as goal

pub returns-in-Some : goal.returns-in-Some
returns-in-Some c = on_ok _ c.open_body.result (ap (λ ts. acted (if_next c.args.self.now.frames ts) (made_of c.args.self.now.maker)) c.in-Some.ensures) c.open_body.ensures

pub returns-in-None : goal.returns-in-None
returns-in-None c = on_ok _ c.open_body-in-None.result (ap (λ x. acted x (made_of c.args.self.now.maker)) (if_plain c.args.self.now.frames (terminals_of c.args.rest.now) c.in-None.ensures)) c.open_body-in-None.ensures
