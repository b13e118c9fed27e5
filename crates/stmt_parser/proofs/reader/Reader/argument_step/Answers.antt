use Rattle.std.proofs.Common.{◌∙◌, true}
use Rattle.expr_parser.specs.Heads.{terminals_of}
use Rattle.stmt_builder.specs.Views.{made_of}
use Rattle.stmt_machine.specs.Machine.{argument_at}
use Rattle.stmt_parser.specs.Nexts.{value_next}
use Rattle.stmt_machine.specs.Actions.{exit_action}
use Rattle.stmt_parser.specs.Outcomes.{acted}
use Rattle.stmt_parser.proofs.ActedLemmas.{acted_does}
use Rattle.stmt_parser.proofs.MoveLemmas.{value_acted}
use Rattle.stmt_machine.specs.declared.frame.Focus.TheVariants as focus
use Rattle.stmt_parser.proofs.ReadLemmas.{read_none}
use Rattle.stmt_parser.proofs.reader.Reader.argument_step.Goals as goal

pub returns-in_default : goal.returns-in_default
returns-in_default c = value_acted (exit_action true) c.args.self.now.frames (argument_at (terminals_of c.args.rest.now)) (made_of c.args.self.now.maker) ∙ c.in_ok-behind.ensures (λ fs r n. acted (value_next (exit_action true) fs r) n) ∙ read_none c.in_ok-behind.field-0 _ _ _ c.in_default.not-Some

pub returns : goal.returns
returns c = let h = rw c.in-Some.is at c.in_ok-behind.ensures in value_acted (exit_action true) c.args.self.now.frames (argument_at (terminals_of c.args.rest.now)) (made_of c.args.self.now.maker) ∙ h (λ fs r n. acted (value_next (exit_action true) fs r) n) ∙ acted_does c.in_ok-done.done (exit_action true) focus.Behind c.read_ended.new.self.frames (terminals_of c.in-Some.behind.now) (made_of c.read_ended.new.self.maker) (made_of c.quit.new.self) c.in_ok-done.ensures ∙ c.gone.ensures c.read_ended.new.self.frames (made_of c.quit.new.self)
