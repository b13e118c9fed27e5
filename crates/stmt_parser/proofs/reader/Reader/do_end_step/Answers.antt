use Rattle.std.proofs.Common.{◌∙◌}
use Rattle.expr_parser.specs.Heads.{terminals_of}
use Rattle.stmt_builder.specs.Views.{made_of}
use Rattle.stmt_machine.specs.Actions.{do_action}
use Rattle.stmt_machine.specs.Machine.{condition_at, jump_move}
use Rattle.stmt_parser.specs.Outcomes.{acted}
use Rattle.stmt_parser.proofs.ActedLemmas.{acted_jump}
use Rattle.stmt_parser.proofs.MoveLemmas.{do_end_acted}
use Rattle.stmt_parser.proofs.ReadLemmas.{read_none}
use Rattle.stmt_parser.proofs.reader.Reader.do_end_step.Goals as goal

pub returns-in_default : goal.returns-in_default
returns-in_default c = do_end_acted c.args.self.now.frames (condition_at (terminals_of c.args.rest.now)) (made_of c.args.self.now.maker) ∙ c.in_ok-behind.ensures (λ fs r n. acted (jump_move do_action fs r) n) ∙ read_none c.in_ok-behind.field-0 _ _ _ c.in_default.not-Some

pub returns : goal.returns
returns c = let h = rw c.in-Some.is at c.in_ok-behind.ensures in do_end_acted c.args.self.now.frames (condition_at (terminals_of c.args.rest.now)) (made_of c.args.self.now.maker) ∙ h (λ fs r n. acted (jump_move do_action fs r) n) ∙ acted_jump c.in_ok-done.done do_action c.read_condition.new.self.frames (terminals_of c.in-Some.behind.now) (made_of c.read_condition.new.self.maker) (made_of c.end_do.new.self) c.in_ok-done.ensures ∙ c.jump.ensures c.read_condition.new.self.frames (made_of c.end_do.new.self)
