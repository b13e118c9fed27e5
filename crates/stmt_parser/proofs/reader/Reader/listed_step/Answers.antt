use Rattle.std.proofs.Common.{◌∙◌}
use Rattle.expr_machine.specs.Reading.{expr_at}
use Rattle.expr_parser.specs.Heads.{terminals_of}
use Rattle.stmt_builder.specs.Views.{made_of}
use Rattle.stmt_parser.specs.Nexts.{listed_next}
use Rattle.stmt_parser.specs.Outcomes.{acted}
use Rattle.stmt_parser.proofs.ActedLemmas.{acted_none}
use Rattle.stmt_parser.proofs.MoveLemmas.{listed_acted}
use Rattle.stmt_machine.specs.declared.frame.Focus.TheVariants as focus
use Rattle.stmt_parser.proofs.ReadLemmas.{read_none}
use Rattle.stmt_parser.proofs.reader.Reader.listed_step.Goals as goal

pub returns-in_default : goal.returns-in_default
returns-in_default c = listed_acted c.args.row c.args.count c.args.self.now.frames (expr_at (terminals_of c.args.rest.now)) (made_of c.args.self.now.maker) ∙ c.in_ok-behind.ensures (λ fs r n. acted (listed_next c.args.row c.args.count fs r) n) ∙ read_none c.in_ok-behind.field-0 _ _ _ c.in_default.not-Some

pub returns : goal.returns
returns c = let h = rw c.in-Some.is at c.in_ok-behind.ensures in listed_acted c.args.row c.args.count c.args.self.now.frames (expr_at (terminals_of c.args.rest.now)) (made_of c.args.self.now.maker) ∙ h (λ fs r n. acted (listed_next c.args.row c.args.count fs r) n) ∙ acted_none (focus.Listed c.args.row c.args.count) c.read_value.new.self.frames (terminals_of c.in-Some.behind.now) (made_of c.read_value.new.self.maker)
