use Rattle.std.proofs.Common.{sym}
use Rattle.content_automata.specs.Views.{shapes_of}
use Rattle.content_automata.proofs.ExploreLemmas.{key_within, key_sized}
use Rattle.content_automata.proofs.MoveLemmas.{moves_there}
use Rattle.content_automata.proofs.explore.moves_of_state.Goals as goal

pub model_at-requires : goal.model_at-requires
model_at-requires c = key_within _ _ _ _ c.requires.reached (sym c.in-Some.ensures.key)

pub moves_of-requires : goal.moves_of-requires
moves_of-requires c = key_sized _ _ _ _ _ c.requires.sized c.requires.reached (sym c.in-Some.ensures.key) c.model_at.ensures

pub returns : goal.returns
returns c = λ k at. moves_there (shapes_of c.args.models.now) c.args.keys.now.keys c.args.at _ c.in-Some.key.now k _ c.in-Some.ensures.key at c.model_at.ensures c.in_ok-count-in-Some.ensures
