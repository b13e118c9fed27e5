use Rattle.std.proofs.Common.{[], ◌∷◌, ap, sym, ◌∙◌}
use Rattle.expr_machine.specs.declared.frame.Focus.TheVariants as focus
use Rattle.expr_machine.specs.Machine.{moves}
use Rattle.expr_machine.specs.Actions.{coalesce_action, short_choice_action, full_choice_action}
use Rattle.expr_parser.specs.Heads.{terminals_of}
use Rattle.expr_parser.proofs.MovedLemmas.{moved}
use Rattle.expr_parser.proofs.FrameLemmas as fl
use Rattle.expr_parser.proofs.reader.Reader.choice.Goals as goal

pub returns-in-Coalesce : goal.returns-in-Coalesce
returns-in-Coalesce c = fl.choice_coalesce _ _ (sym c.waiting.ensures ∙ c.in-Coalesce.is) ∙ ap (λ fs. moves focus.Coalesced fs (terminals_of c.args.rest.now) (coalesce_action ∷ [])) (sym c.drop_top.ensures)

pub returns-in-ShortChoice : goal.returns-in-ShortChoice
returns-in-ShortChoice c = fl.choice_short _ _ (sym c.waiting.ensures ∙ c.in-ShortChoice.is) ∙ ap (λ fs. moves focus.Whole fs (terminals_of c.args.rest.now) (short_choice_action ∷ [])) (sym c.drop_top-in-ShortChoice.ensures)

pub returns-in-FullChoice : goal.returns-in-FullChoice
returns-in-FullChoice c = fl.choice_full _ _ (sym c.waiting.ensures ∙ c.in-FullChoice.is) ∙ ap (λ fs. moves focus.Whole fs (terminals_of c.args.rest.now) (full_choice_action ∷ [])) (sym c.drop_top-in-FullChoice.ensures)

pub returns-in_default : goal.returns-in_default
returns-in_default c = moved c.question.result _ _ _ (fl.choice_other _ _ (λ e. c.in_default.not-Coalesce (c.waiting.ensures ∙ e)) (λ e. c.in_default.not-ShortChoice (c.waiting.ensures ∙ e)) (λ e. c.in_default.not-FullChoice (c.waiting.ensures ∙ e))) c.question.ensures
