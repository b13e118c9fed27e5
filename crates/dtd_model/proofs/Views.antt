-- The plain form of a particle, over the items of its vector.
use Rattle.std.proofs.Common.{◌≡◌, refl, ap, ◌∙◌}
use Rattle.std.specs.declared.vec.Vec.{Vec}
use Rattle.std.specs.declared.boxed.Box.{Box}
use Rattle.std.specs.declared.alloc.Global.{Global}
use Rattle.text_base.specs.declared.numbers.Elem.{Elem}
use Rattle.dtd_model.specs.declared.dtd.Particle.{Particle, One, Seq, Alt, Opt, Star, Plus, Row_of-Particle, end_of-Particle, more_of-Particle, items-the_row-Particle, items_hidden-the_row-Particle-0}
use Rattle.dtd_model.specs.declared.dtd.Particle.TheBlock.{hidden-the_row-Particle-0}
use Rattle.dtd_model.specs.Table.{one, sequence, choice, optional, any_number, at_least_one, more_models, model_of, models_of, models_in}

row_is : {n : _} (row : Row_of-Particle n) → models_of row ≡ models_in (items-the_row-Particle n row)
unfolding model_of
row_is end_of-Particle = refl
row_is (more_of-Particle a rest) = ap (more_models (model_of a)) (row_is rest)

vec_is : (v : Vec Particle Global) → models_of (hidden-the_row-Particle-0 v) ≡ models_in v.items
vec_is v = row_is (hidden-the_row-Particle-0 v) ∙ ap models_in (items_hidden-the_row-Particle-0 v)

pub model_of-One : (e : Elem) → model_of (One e) ≡ one e.0
unfolding model_of
model_of-One e = refl

pub model_of-Seq : (v : Vec Particle Global) → model_of (Seq v) ≡ sequence (models_in v.items)
unfolding model_of
model_of-Seq v = ap sequence (vec_is v)

pub model_of-Alt : (v : Vec Particle Global) → model_of (Alt v) ≡ choice (models_in v.items)
unfolding model_of
model_of-Alt v = ap choice (vec_is v)

pub model_of-Opt : (b : Box Particle Global) → model_of (Opt b) ≡ optional (model_of b.value)
unfolding model_of
model_of-Opt b = refl

pub model_of-Star : (b : Box Particle Global) → model_of (Star b) ≡ any_number (model_of b.value)
unfolding model_of
model_of-Star b = refl

pub model_of-Plus : (b : Box Particle Global) → model_of (Plus b) ≡ at_least_one (model_of b.value)
unfolding model_of
model_of-Plus b = refl

pub ruleset views = (model_of-One, model_of-Seq, model_of-Alt, model_of-Opt, model_of-Star, model_of-Plus)
