use Rattle.std.proofs.Common.{refl, ap, ◌∙◌}
use Rattle.std.specs.Option.{option_copied}
use Rattle.fst_core.specs.declared.moves.Action.{Action}
use Rattle.fst_core.proofs.ChoiceLemmas.{adds_one, fits_one}
use Rattle.fst_core.proofs.rows.push_choice.Goals as goal

pub returns-clause-choice : goal.returns-clause-choice
returns-clause-choice c =
    adds_one _ _ _ _ _ _ _ c.in-Some.action.now c.in_ok-push.ensures.items (ap (option_copied {T = Action}) c.in-Some.is) refl refl refl refl (c.in_ok-out.ensures.items ∙ c.as_slice.ensures.value)

pub returns-clause-fits : goal.returns-clause-fits
returns-clause-fits c =
    fits_one _ _ _ _ _ c.in-Some.action.now c.in_ok-push.ensures.items (ap (option_copied {T = Action}) c.in-Some.is) refl refl
