use Rattle.std.proofs.Common.{◌∙◌}
use Rattle.expr_machine.specs.Reading.{expr_at}
use Rattle.expr_parser.specs.Heads.{terminals_of}
use Rattle.stmt_builder.specs.Views.{made_of}
use Rattle.stmt_parser.specs.Ends.{behind_end}
use Rattle.stmt_parser.proofs.ActedLemmas.{on_end, ended_reads}
use Rattle.stmt_parser.proofs.ReadLemmas.{read_none, end_read}
use Rattle.stmt_parser.proofs.reader.Reader.read_ended.Goals as goal

pub returns-in_default : goal.returns-in_default
returns-in_default c = λ next. ended_reads c.args.end (expr_at (terminals_of c.args.rest.now)) (made_of c.args.self.now.maker) (next c.args.self.now.frames) ∙ c.in_ok-behind.ensures (λ fs r n. on_end (behind_end c.args.end r) n (next fs)) ∙ read_none c.in_ok-behind.field-0 _ _ _ c.in_default.not-Some

pub returns : goal.returns
returns c = let h = rw c.in-Some.is at c.in_ok-behind.ensures in λ next. ended_reads c.args.end (expr_at (terminals_of c.args.rest.now)) (made_of c.args.self.now.maker) (next c.args.self.now.frames) ∙ h (λ fs r n. on_end (behind_end c.args.end r) n (next fs)) ∙ end_read c.behind_end.result _ c.read_value.new.self.frames (made_of c.read_value.new.self.maker) next c.behind_end.ensures
