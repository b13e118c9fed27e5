use Rattle.std.proofs.Common.{ap, ◌∙◌}
use Rattle.expr_parser.specs.Heads.{terminals_of}
use Rattle.stmt_builder.specs.Views.{made_of}
use Rattle.stmt_machine.specs.Actions.{include_action}
use Rattle.stmt_machine.specs.Machine.{include_move}
use Rattle.stmt_parser.specs.Outcomes.{acted}
use Rattle.stmt_parser.proofs.ActedLemmas.{acted_stuck, acted_jump}
use Rattle.stmt_parser.proofs.OtherLemmas.{include_parens, include_other}
use Rattle.stmt_parser.proofs.ReadLemmas.{on_ok}
use Rattle.stmt_parser.proofs.reader.Reader.include_step.Goals as goal

pub returns-in_ok-done-in-Some : goal.returns-in_ok-done-in-Some
returns-in_ok-done-in-Some c = ap (λ ts. acted (include_move c.args.self.now.frames ts) (made_of c.args.self.now.maker)) c.in-Some.ensures ∙ acted_jump c.in_ok-done-in-Some.done (include_action c.in-Some.path.now) c.args.self.now.frames (terminals_of c.in-Some.behind.now) (made_of c.args.self.now.maker) (made_of c.include.new.self) c.in_ok-done-in-Some.ensures ∙ c.jump.ensures c.args.self.now.frames (made_of c.include.new.self)

pub returns-in-Some-behind_sign : goal.returns-in-Some-behind_sign
returns-in-Some-behind_sign c = on_ok _ c.included_step.result (ap (λ ts. acted (include_move c.args.self.now.frames ts) (made_of c.args.self.now.maker)) c.in-Some-behind_sign.ensures ∙ ap (λ x. acted x (made_of c.args.self.now.maker)) (include_parens c.args.self.now.frames (terminals_of c.in-Some-behind_sign.inner.now))) c.included_step.ensures

pub returns-in-None-behind_sign : goal.returns-in-None-behind_sign
returns-in-None-behind_sign c = ap (λ x. acted x (made_of c.args.self.now.maker)) (include_other c.args.self.now.frames (terminals_of c.args.rest.now) c.in-None.ensures c.in-None-behind_sign.ensures) ∙ acted_stuck (made_of c.args.self.now.maker)
