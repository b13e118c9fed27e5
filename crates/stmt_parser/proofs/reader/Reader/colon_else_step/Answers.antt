use Rattle.std.proofs.Common.{ap, ◌∙◌}
use Rattle.expr_parser.specs.Heads.{terminals_of}
use Rattle.stmt_builder.specs.Views.{made_of}
use Rattle.stmt_machine.specs.Machine.{colon_else_move}
use Rattle.stmt_parser.specs.Outcomes.{acted}
use Rattle.stmt_parser.proofs.ActedLemmas.{acted_stuck}
use Rattle.stmt_parser.proofs.ReadLemmas.{on_ok}
use Rattle.stmt_parser.proofs.TestLemmas.{colon_else_open}
use Rattle.stmt_parser.proofs.reader.Reader.colon_else_step.Goals as goal

pub returns-in_default : goal.returns-in_default
returns-in_default c = ap (λ x. acted x (made_of c.args.self.now.maker)) (colon_else_open c.args.count c.args.self.now.frames (terminals_of c.args.rest.now) c.in_default.ensures) ∙ acted_stuck (made_of c.args.self.now.maker)

pub returns : goal.returns
returns c = on_ok _ c.open_body.result (ap (λ ts. acted (colon_else_move c.args.count c.args.self.now.frames ts) (made_of c.args.self.now.maker)) c.in-Some.ensures) c.open_body.ensures
