use Rattle.std.proofs.Common.{ap, ◌∙◌}
use Rattle.expr_parser.specs.Heads.{terminals_of}
use Rattle.stmt_builder.specs.Views.{made_of}
use Rattle.stmt_machine.specs.Machine.{parameters_move}
use Rattle.stmt_parser.specs.Outcomes.{acted}
use Rattle.stmt_parser.proofs.ActedLemmas.{acted_none}
use Rattle.stmt_parser.proofs.OtherLemmas.{parameters_some}
use Rattle.stmt_parser.proofs.ReadLemmas.{on_ok}
use Rattle.stmt_machine.specs.declared.frame.Focus.TheVariants as focus
use Rattle.stmt_parser.proofs.reader.Reader.parameters_step.Goals as goal

pub returns-in-Some : goal.returns-in-Some
returns-in-Some c = on_ok _ c.function_body_step.result (ap (λ ts. acted (parameters_move c.args.self.now.frames ts) (made_of c.args.self.now.maker)) c.in-Some.ensures) c.function_body_step.ensures

pub returns-in-None : goal.returns-in-None
returns-in-None c = ap (λ x. acted x (made_of c.args.self.now.maker)) (parameters_some c.args.self.now.frames (terminals_of c.args.rest.now) c.in-None.ensures) ∙ acted_none focus.Parameter c.args.self.now.frames (terminals_of c.args.rest.now) (made_of c.args.self.now.maker)
