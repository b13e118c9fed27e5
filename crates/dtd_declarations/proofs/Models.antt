-- The models of a vector of particles.
use Rattle.std.proofs.Common.{◌≡◌, List, [], ◌∷◌, map, refl, ap}
use Rattle.dtd_model.specs.Table.{model_of, models_in, more_models}
use Rattle.dtd_model.specs.declared.dtd.Particle.{Particle}
use Rattle.dtd_texts.specs.ContentModels.{all_models}

pub models_are : (ps : List Particle) → models_in ps ≡ all_models (map model_of ps)
models_are [] = refl
models_are (p ∷ ps) = ap (more_models (model_of p)) (models_are ps)
