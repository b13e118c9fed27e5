use Rattle.std.proofs.Common.{◌∙◌}
use Rattle.expr_parser.specs.Heads.{terminals_of}
use Rattle.stmt_builder.specs.Views.{made_of}
use Rattle.stmt_machine.specs.Machine.{statement_at}
use Rattle.stmt_parser.specs.Nexts.{value_next}
use Rattle.stmt_parser.specs.Lasts.{last_action}
use Rattle.stmt_parser.specs.Outcomes.{acted}
use Rattle.stmt_parser.proofs.ActedLemmas.{acted_does}
use Rattle.stmt_parser.proofs.MoveLemmas.{value_acted}
use Rattle.stmt_machine.specs.declared.frame.Focus.TheVariants as focus
use Rattle.stmt_parser.proofs.ReadLemmas.{read_none}
use Rattle.stmt_parser.proofs.reader.Reader.value_step.Goals as goal

pub returns-in_default : goal.returns-in_default
returns-in_default c = value_acted (last_action c.args.last) c.args.self.now.frames (statement_at (terminals_of c.args.rest.now)) (made_of c.args.self.now.maker) ∙ c.in_ok-behind.ensures (λ fs r n. acted (value_next (last_action c.args.last) fs r) n) ∙ read_none c.in_ok-behind.field-0 _ _ _ c.in_default.not-Some

pub returns : goal.returns
returns c = let h = rw c.in-Some.is at c.in_ok-behind.ensures in value_acted (last_action c.args.last) c.args.self.now.frames (statement_at (terminals_of c.args.rest.now)) (made_of c.args.self.now.maker) ∙ h (λ fs r n. acted (value_next (last_action c.args.last) fs r) n) ∙ acted_does c.in_ok-done.done (last_action c.args.last) focus.Behind c.read_ended.new.self.frames (terminals_of c.in-Some.behind.now) (made_of c.read_ended.new.self.maker) (made_of c.put_value.new.maker) c.in_ok-done.ensures ∙ c.gone.ensures c.read_ended.new.self.frames (made_of c.put_value.new.maker)
