use Rattle.std.proofs.Common.{ap, sym, ◌∙◌}
use Rattle.expr_parser.specs.Heads.{terminals_of}
use Rattle.stmt_builder.specs.Views.{made_of}
use Rattle.stmt_parser.specs.Nexts.{body_next, variable_next}
use Rattle.stmt_parser.specs.Outcomes.{acted}
use Rattle.stmt_parser.proofs.OtherLemmas.{variable_other}
use Rattle.stmt_parser.proofs.ReadLemmas.{on_ok}
use Rattle.stmt_parser.proofs.reader.Reader.variable_step.Goals as goal

pub returns-in_default : goal.returns-in_default
returns-in_default c = on_ok _ c.keyed_step.result (ap (λ x. acted x (made_of c.args.self.now.maker)) (variable_other c.args.name.now c.args.self.now.frames (terminals_of c.args.rest.now) c.in_default.ensures)) c.keyed_step.ensures

pub returns : goal.returns
returns c = on_ok _ c.body_step.result (ap (λ ts. acted (variable_next c.args.name.now c.args.self.now.frames ts) (made_of c.args.self.now.maker)) c.in-Some.ensures ∙ ap (λ l. acted (body_next l c.args.self.now.frames (terminals_of c.in-Some.behind.now)) (made_of c.args.self.now.maker)) (sym c.in_ok-of.ensures)) c.body_step.ensures
