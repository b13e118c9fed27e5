use Rattle.std.proofs.Common.{◌∙◌}
use Rattle.ssa_form.proofs.places.places_of.Goals as goal

pub returns-then-not-replace_all : goal.returns-then-not-replace_all
returns-then-not-replace_all c flow are = c.replace_all.ensures.put flow are (c.loop.invariant.1 flow are)

pub loop-preserved : goal.loop-preserved
loop-preserved c = (c.replace_all.ensures.len ∙ c.loop.invariant.0, λ flow are. c.replace_all.ensures.put flow are (c.loop.invariant.1 flow are))
