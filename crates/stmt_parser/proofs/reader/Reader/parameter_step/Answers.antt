use Rattle.std.proofs.Common.{◌∷◌, ap, ◌∙◌}
use Rattle.script_grammar.specs.Terminals.{variable_terminal}
use Rattle.expr_parser.specs.Heads.{terminals_of}
use Rattle.stmt_builder.specs.Views.{made_of}
use Rattle.stmt_machine.specs.Machine.{parameter_move}
use Rattle.stmt_parser.specs.Outcomes.{acted}
use Rattle.stmt_parser.proofs.ActedLemmas.{acted_stuck}
use Rattle.stmt_parser.proofs.OtherLemmas.{parameter_plain, parameter_none}
use Rattle.stmt_parser.proofs.ReadLemmas.{on_ok}
use Rattle.stmt_parser.proofs.PartLemmas.{parameter_given, parameter_empty}
use Rattle.stmt_parser.proofs.reader.Reader.parameter_step.Goals as goal

pub returns-in_default : goal.returns-in_default
returns-in_default c = ap (λ x. acted x (made_of c.args.self.now.maker)) (parameter_none c.args.self.now.frames (terminals_of c.args.rest.now) c.in_default.ensures) ∙ acted_stuck (made_of c.args.self.now.maker)

pub returns-in_default-behind_sign : goal.returns-in_default-behind_sign
returns-in_default-behind_sign c = on_ok _ c.plain_step.result (ap (λ ts. acted (parameter_move c.args.self.now.frames ts) (made_of c.args.self.now.maker)) c.in-Some.ensures ∙ ap (λ x. acted x (made_of c.args.self.now.maker)) (parameter_plain c.in-Some.name.now c.args.self.now.frames (terminals_of c.in-Some.behind.now) c.in_default-behind_sign.ensures)) c.plain_step.ensures

pub returns-in-None : goal.returns-in-None
returns-in-None c = on_ok _ c.plain_step-in-None.result (ap (λ ts. acted (parameter_move c.args.self.now.frames ts) (made_of c.args.self.now.maker)) c.in-Some.ensures ∙ ap (λ ts. acted (parameter_move c.args.self.now.frames (variable_terminal c.in-Some.name.now ∷ ts)) (made_of c.args.self.now.maker)) c.in-Some-behind_sign.ensures ∙ parameter_empty c.in-Some.name.now c.args.self.now.frames (terminals_of c.in-Some.behind.now) (terminals_of c.in-Some-behind_sign.default.now) c.in-Some-behind_sign.ensures c.in-None.ensures (made_of c.args.self.now.maker)) c.plain_step-in-None.ensures

pub returns-in-Some-head_at : goal.returns-in-Some-head_at
returns-in-Some-head_at c = on_ok _ c.default_step.result (ap (λ ts. acted (parameter_move c.args.self.now.frames ts) (made_of c.args.self.now.maker)) c.in-Some.ensures ∙ ap (λ ts. acted (parameter_move c.args.self.now.frames (variable_terminal c.in-Some.name.now ∷ ts)) (made_of c.args.self.now.maker)) c.in-Some-behind_sign.ensures ∙ ap (λ x. acted x (made_of c.args.self.now.maker)) (parameter_given c.in-Some.name.now c.args.self.now.frames (terminals_of c.in-Some-behind_sign.default.now) _ _ c.in-Some-head_at.ensures)) c.default_step.ensures
