use Rattle.std.proofs.Common.{◌∙◌}
use Rattle.expr_parser.specs.Heads.{terminals_of}
use Rattle.stmt_builder.specs.Views.{made_of}
use Rattle.stmt_machine.specs.Machine.{condition_at}
use Rattle.stmt_parser.specs.Nexts.{else_if_next}
use Rattle.stmt_parser.specs.Outcomes.{acted}
use Rattle.stmt_parser.proofs.MoveLemmas.{else_if_fails, else_if_opens}
use Rattle.stmt_parser.proofs.ReadLemmas.{read_none, on_ok}
use Rattle.stmt_parser.proofs.reader.Reader.else_if_step.Goals as goal

pub returns-then-not-done : goal.returns-then-not-done
returns-then-not-done c = else_if_fails c.args.count c.args.self.now.frames (condition_at (terminals_of c.args.rest.now)) (made_of c.args.self.now.maker) (made_of c.open.new.self) c.in_ok-done.done c.in_ok-done.ensures c.if-not-done.true

pub returns-in_default : goal.returns-in_default
returns-in_default c = else_if_opens c.args.count c.args.self.now.frames (condition_at (terminals_of c.args.rest.now)) (made_of c.args.self.now.maker) (made_of c.open.new.self) c.in_ok-done.done c.in_ok-done.ensures c.if-not-done.false ∙ c.in_ok-behind.ensures (λ fs r n. acted (else_if_next c.args.count fs r) n) ∙ read_none c.in_ok-behind.field-0 _ _ _ c.in_default.not-Some

pub returns : goal.returns
returns c = let h = rw c.in-Some.is at c.in_ok-behind.ensures in on_ok _ c.else_if_body.result (else_if_opens c.args.count c.args.self.now.frames (condition_at (terminals_of c.args.rest.now)) (made_of c.args.self.now.maker) (made_of c.open.new.self) c.in_ok-done.done c.in_ok-done.ensures c.if-not-done.false ∙ h (λ fs r n. acted (else_if_next c.args.count fs r) n)) c.else_if_body.ensures
