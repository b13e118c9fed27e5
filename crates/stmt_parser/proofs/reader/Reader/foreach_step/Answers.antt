use Rattle.std.proofs.Common.{ap, ◌∙◌}
use Rattle.expr_machine.specs.Reading.{expr_at}
use Rattle.expr_parser.specs.Heads.{terminals_of}
use Rattle.stmt_builder.specs.Views.{made_of}
use Rattle.stmt_machine.specs.Machine.{foreach_begin_move, behind_paren}
use Rattle.stmt_parser.specs.Nexts.{each_next}
use Rattle.stmt_parser.specs.Outcomes.{acted}
use Rattle.stmt_parser.proofs.ActedLemmas.{acted_stuck}
use Rattle.stmt_parser.proofs.MoveLemmas.{foreach_acted}
use Rattle.stmt_parser.proofs.OtherLemmas.{no_paren}
use Rattle.stmt_parser.proofs.ReadLemmas.{read_none, on_ok}
use Rattle.stmt_parser.proofs.reader.Reader.foreach_step.Goals as goal

pub returns-in_default : goal.returns-in_default
returns-in_default c = ap (λ x. acted (foreach_begin_move c.args.self.now.frames x) (made_of c.args.self.now.maker)) (no_paren (terminals_of c.args.rest.now) c.in_default.ensures) ∙ acted_stuck (made_of c.args.self.now.maker)

pub returns-in_default-2 : goal.returns-in_default-2
returns-in_default-2 c = ap (λ ts. acted (foreach_begin_move c.args.self.now.frames (behind_paren ts)) (made_of c.args.self.now.maker)) c.in-Some.ensures ∙ foreach_acted c.args.self.now.frames (expr_at (terminals_of c.in-Some.inner.now)) (made_of c.args.self.now.maker) ∙ c.in_ok-behind.ensures (λ fs r n. acted (each_next fs r) n) ∙ read_none c.in_ok-behind.field-0 _ _ _ c.in_default-2.not-Some

pub returns : goal.returns
returns c = let h = rw c.in-Some-2.is at c.in_ok-behind.ensures in on_ok _ c.each_step.result (ap (λ ts. acted (foreach_begin_move c.args.self.now.frames (behind_paren ts)) (made_of c.args.self.now.maker)) c.in-Some.ensures ∙ foreach_acted c.args.self.now.frames (expr_at (terminals_of c.in-Some.inner.now)) (made_of c.args.self.now.maker) ∙ h (λ fs r n. acted (each_next fs r) n)) c.each_step.ensures
