use Rattle.std.proofs.Common.{ap, ◌∙◌, true}
use Rattle.expr_parser.specs.Heads.{terminals_of}
use Rattle.stmt_builder.specs.Views.{made_of}
use Rattle.stmt_machine.specs.Actions.{if_action, loop_action}
use Rattle.stmt_machine.specs.Machine.{behind_move}
use Rattle.stmt_parser.specs.Outcomes.{acted}
use Rattle.stmt_parser.proofs.ActedLemmas.{acted_does}
use Rattle.stmt_machine.specs.declared.frame.Focus.TheVariants as focus
use Rattle.stmt_parser.proofs.reader.Reader.behind_step.Goals as goal

pub returns-in_ok-done-in-Some-Else : goal.returns-in_ok-done-in-Some-Else
returns-in_ok-done-in-Some-Else c = let h = rw c.in-Some-Else.field-0-is at c.in-Some-Else.ensures in ap (λ fs. acted (behind_move fs (terminals_of c.args.rest.now)) (made_of c.args.self.now.maker)) h ∙ acted_does c.in_ok-done-in-Some-Else.done (if_action c.in-Some-Else.count true) focus.Behind c.pop.new.self (terminals_of c.args.rest.now) (made_of c.args.self.now.maker) (made_of c.end_if.new.self) c.in_ok-done-in-Some-Else.ensures ∙ c.gone.ensures c.pop.new.self (made_of c.end_if.new.self)

pub returns-in_ok-done-in-Some-Body : goal.returns-in_ok-done-in-Some-Body
returns-in_ok-done-in-Some-Body c = let h = rw c.in-Some-Body.field-0-is at c.in-Some-Body.ensures in ap (λ fs. acted (behind_move fs (terminals_of c.args.rest.now)) (made_of c.args.self.now.maker)) h ∙ acted_does c.in_ok-done-in-Some-Body.done (loop_action c.in-Some-Body.of) focus.Behind c.pop.new.self (terminals_of c.args.rest.now) (made_of c.args.self.now.maker) (made_of c.end_loop.new.self) c.in_ok-done-in-Some-Body.ensures ∙ c.gone-in-Some-Body.ensures c.pop.new.self (made_of c.end_loop.new.self)
