use Rattle.std.proofs.Common.{◌∙◌}
use Rattle.expr_parser.specs.Heads.{terminals_of}
use Rattle.stmt_builder.specs.Views.{made_of}
use Rattle.stmt_machine.specs.Machine.{condition_at}
use Rattle.stmt_parser.specs.Nexts.{body_next}
use Rattle.stmt_parser.specs.Outcomes.{acted}
use Rattle.stmt_parser.proofs.MoveLemmas.{while_acted}
use Rattle.stmt_parser.proofs.ReadLemmas.{read_none, on_ok}
use Rattle.stmt_machine.specs.declared.frame.Loop.TheVariants as loop
use Rattle.stmt_parser.proofs.reader.Reader.while_step.Goals as goal

pub returns-in_default : goal.returns-in_default
returns-in_default c = while_acted c.args.self.now.frames (condition_at (terminals_of c.args.rest.now)) (made_of c.args.self.now.maker) ∙ c.in_ok-behind.ensures (λ fs r n. acted (body_next loop.While fs r) n) ∙ read_none c.in_ok-behind.field-0 _ _ _ c.in_default.not-Some

pub returns : goal.returns
returns c = let h = rw c.in-Some.is at c.in_ok-behind.ensures in on_ok _ c.body_step.result (while_acted c.args.self.now.frames (condition_at (terminals_of c.args.rest.now)) (made_of c.args.self.now.maker) ∙ h (λ fs r n. acted (body_next loop.While fs r) n)) c.body_step.ensures
