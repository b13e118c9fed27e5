use Rattle.std.proofs.Common.{ap, ◌∙◌, false, true}
use Rattle.expr_parser.specs.Heads.{terminals_of}
use Rattle.stmt_builder.specs.Views.{made_of}
use Rattle.stmt_machine.specs.Machine.{statement_at, condition_move}
use Rattle.stmt_parser.specs.Nexts.{for_condition_next}
use Rattle.stmt_parser.specs.Outcomes.{acted}
use Rattle.stmt_parser.proofs.ActedLemmas.{acted_none}
use Rattle.stmt_parser.proofs.MoveLemmas.{condition_acted}
use Rattle.stmt_parser.proofs.TestLemmas.{condition_some}
use Rattle.stmt_machine.specs.declared.frame.Row.TheVariants as row
use Rattle.stmt_machine.specs.declared.frame.Focus.TheVariants as focus
use Rattle.stmt_parser.proofs.ReadLemmas.{read_none}
use Rattle.stmt_parser.proofs.reader.Reader.condition_step.Goals as goal

pub returns-in-Some : goal.returns-in-Some
returns-in-Some c = ap (λ ts. acted (condition_move c.args.begin c.args.self.now.frames ts) (made_of c.args.self.now.maker)) c.in-Some.ensures ∙ acted_none (focus.Start (row.Next c.args.begin false)) c.args.self.now.frames (terminals_of c.in-Some.behind.now) (made_of c.args.self.now.maker)

pub returns-in_default-2 : goal.returns-in_default-2
returns-in_default-2 c = ap (λ x. acted x (made_of c.args.self.now.maker)) (condition_some c.args.begin c.args.self.now.frames (terminals_of c.args.rest.now) c.in_default.ensures) ∙ condition_acted c.args.begin c.args.self.now.frames (statement_at (terminals_of c.args.rest.now)) (made_of c.args.self.now.maker) ∙ c.in_ok-behind.ensures (λ fs r n. acted (for_condition_next c.args.begin fs r) n) ∙ read_none c.in_ok-behind.field-0 _ _ _ c.in_default-2.not-Some

pub returns : goal.returns
returns c = let h = rw c.in-Some-2.is at c.in_ok-behind.ensures in ap (λ x. acted x (made_of c.args.self.now.maker)) (condition_some c.args.begin c.args.self.now.frames (terminals_of c.args.rest.now) c.in_default.ensures) ∙ condition_acted c.args.begin c.args.self.now.frames (statement_at (terminals_of c.args.rest.now)) (made_of c.args.self.now.maker) ∙ h (λ fs r n. acted (for_condition_next c.args.begin fs r) n) ∙ acted_none (focus.Start (row.Next c.args.begin true)) c.read_ended.new.self.frames (terminals_of c.in-Some-2.behind.now) (made_of c.read_ended.new.self.maker)
