use Rattle.std.proofs.Common.{[], ◌∷◌, ap, sym, ◌∙◌, false}
use Rattle.expr_parser.specs.Heads.{terminals_of}
use Rattle.stmt_builder.specs.Views.{made_of}
use Rattle.stmt_machine.specs.Actions.{open_action}
use Rattle.stmt_machine.specs.Machine.{moves, condition_at}
use Rattle.stmt_parser.specs.Nexts.{elseif_next}
use Rattle.stmt_parser.specs.Outcomes.{acted}
use Rattle.stmt_parser.proofs.MoveLemmas.{elseif_acted}
use Rattle.stmt_parser.proofs.ReadLemmas.{read_none, on_ok}
use Rattle.stmt_machine.specs.declared.frame.Focus.TheVariants as focus
use Rattle.stmt_machine.specs.declared.frame.Frame.TheVariants as frame
use Rattle.stmt_parser.proofs.reader.Reader.elseif_step.Goals as goal

pub returns-in_default : goal.returns-in_default
returns-in_default c = elseif_acted c.args.count c.args.self.now.frames (condition_at (terminals_of c.args.rest.now)) (made_of c.args.self.now.maker) ∙ c.in_ok-behind.ensures (λ fs r n. acted (elseif_next c.args.count fs r) n) ∙ read_none c.in_ok-behind.field-0 _ _ _ c.in_default.not-Some

pub returns : goal.returns
returns c = let h = rw c.in-Some.is at c.in_ok-behind.ensures in on_ok _ c.open_body.result (elseif_acted c.args.count c.args.self.now.frames (condition_at (terminals_of c.args.rest.now)) (made_of c.args.self.now.maker) ∙ h (λ fs r n. acted (elseif_next c.args.count fs r) n) ∙ ap (λ k. acted (moves focus.Begin (frame.Arm k ∷ c.read_condition.new.self.frames) (terminals_of c.in-Some.behind.now) (open_action false ∷ [])) (made_of c.read_condition.new.self.maker)) (sym c.in_ok-more.ensures)) c.open_body.ensures
