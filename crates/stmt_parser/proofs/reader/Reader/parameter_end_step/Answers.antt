use Rattle.std.proofs.Common.{ap, ◌∙◌}
use Rattle.expr_parser.specs.Heads.{terminals_of}
use Rattle.stmt_builder.specs.Views.{made_of}
use Rattle.stmt_machine.specs.Machine.{parameter_end_move}
use Rattle.stmt_parser.specs.Outcomes.{acted}
use Rattle.stmt_parser.proofs.ActedLemmas.{acted_none, acted_stuck}
use Rattle.stmt_parser.proofs.OtherLemmas.{parameter_end_none}
use Rattle.stmt_parser.proofs.ReadLemmas.{on_ok}
use Rattle.stmt_machine.specs.declared.frame.Focus.TheVariants as focus
use Rattle.stmt_parser.proofs.reader.Reader.parameter_end_step.Goals as goal

pub returns-in-Some : goal.returns-in-Some
returns-in-Some c = on_ok _ c.function_body_step.result (ap (λ ts. acted (parameter_end_move c.args.self.now.frames ts) (made_of c.args.self.now.maker)) c.in-Some.ensures) c.function_body_step.ensures

pub returns-in-Some-behind_sign : goal.returns-in-Some-behind_sign
returns-in-Some-behind_sign c = ap (λ ts. acted (parameter_end_move c.args.self.now.frames ts) (made_of c.args.self.now.maker)) c.in-Some-behind_sign.ensures ∙ acted_none focus.Parameter c.args.self.now.frames (terminals_of c.in-Some-behind_sign.behind.now) (made_of c.args.self.now.maker)

pub returns-in-None-behind_sign : goal.returns-in-None-behind_sign
returns-in-None-behind_sign c = ap (λ x. acted x (made_of c.args.self.now.maker)) (parameter_end_none c.args.self.now.frames (terminals_of c.args.rest.now) c.in-None.ensures c.in-None-behind_sign.ensures) ∙ acted_stuck (made_of c.args.self.now.maker)
