use Rattle.std.proofs.Common.{◌∙◌}
use Rattle.ssa_form.proofs.places.replace_all.Goals as goal

pub loop-step-preserved : goal.loop-step-preserved
loop-step-preserved c = (c.replace-is_new.ensures.len ∙ c.loop-step.invariant.0, λ flow are put. c.replace-is_new.ensures.put flow are (c.loop-step.invariant.1 flow are put))
