use Rattle.std.proofs.Common.{◌∙◌}
use Rattle.expr_parser.specs.Heads.{terminals_of}
use Rattle.stmt_builder.specs.Views.{made_of}
use Rattle.stmt_machine.specs.Machine.{condition_at}
use Rattle.stmt_parser.specs.Nexts.{colon_elseif_next}
use Rattle.stmt_parser.specs.Outcomes.{acted}
use Rattle.stmt_parser.proofs.MoveLemmas.{colon_elseif_acted}
use Rattle.stmt_parser.proofs.ReadLemmas.{read_none, on_ok}
use Rattle.stmt_parser.proofs.reader.Reader.colon_elseif_step.Goals as goal

pub returns-in_default : goal.returns-in_default
returns-in_default c = colon_elseif_acted c.args.count c.args.self.now.frames (condition_at (terminals_of c.args.rest.now)) (made_of c.args.self.now.maker) ∙ c.in_ok-behind.ensures (λ fs r n. acted (colon_elseif_next c.args.count fs r) n) ∙ read_none c.in_ok-behind.field-0 _ _ _ c.in_default.not-Some

pub returns : goal.returns
returns c = let h = rw c.in-Some.is at c.in_ok-behind.ensures in on_ok _ c.colon_elseif_body.result (colon_elseif_acted c.args.count c.args.self.now.frames (condition_at (terminals_of c.args.rest.now)) (made_of c.args.self.now.maker) ∙ h (λ fs r n. acted (colon_elseif_next c.args.count fs r) n)) c.colon_elseif_body.ensures
