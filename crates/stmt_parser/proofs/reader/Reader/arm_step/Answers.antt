use Rattle.std.proofs.Common.{ap, ◌∙◌, false}
use Rattle.expr_parser.specs.Heads.{terminals_of}
use Rattle.stmt_builder.specs.Views.{made_of}
use Rattle.stmt_machine.specs.Actions.{if_action}
use Rattle.stmt_machine.specs.Machine.{arm_move}
use Rattle.stmt_parser.specs.Outcomes.{acted}
use Rattle.stmt_parser.proofs.ActedLemmas.{acted_does}
use Rattle.stmt_parser.proofs.OtherLemmas.{arm_end}
use Rattle.stmt_parser.proofs.ReadLemmas.{on_ok}
use Rattle.stmt_machine.specs.declared.frame.Focus.TheVariants as focus
use Rattle.stmt_parser.proofs.reader.Reader.arm_step.Goals as goal

pub returns-in-Some : goal.returns-in-Some
returns-in-Some c = on_ok _ c.elseif_step.result (ap (λ ts. acted (arm_move c.args.count c.args.self.now.frames ts) (made_of c.args.self.now.maker)) c.in-Some.ensures) c.elseif_step.ensures

pub returns-in-Some-behind_word : goal.returns-in-Some-behind_word
returns-in-Some-behind_word c = on_ok _ c.else_step.result (ap (λ ts. acted (arm_move c.args.count c.args.self.now.frames ts) (made_of c.args.self.now.maker)) c.in-Some-behind_word.ensures) c.else_step.ensures

pub returns-in_ok-done-in-None-behind_word : goal.returns-in_ok-done-in-None-behind_word
returns-in_ok-done-in-None-behind_word c = ap (λ x. acted x (made_of c.args.self.now.maker)) (arm_end c.args.count c.args.self.now.frames (terminals_of c.args.rest.now) c.in-None.ensures c.in-None-behind_word.ensures) ∙ acted_does c.in_ok-done-in-None-behind_word.done (if_action c.args.count false) focus.Behind c.args.self.now.frames (terminals_of c.args.rest.now) (made_of c.args.self.now.maker) (made_of c.end_if.new.self) c.in_ok-done-in-None-behind_word.ensures ∙ c.gone.ensures c.args.self.now.frames (made_of c.end_if.new.self)
