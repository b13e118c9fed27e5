-- The positions of small models.
use Rattle.std.proofs.Common.{◌≡◌, true, false, [], ◌∷◌, refl}
use Rattle.dtd_model.specs.Table.{Model, one, sequence, choice, optional, any_number, no_models, more_models}
use Rattle.dtd_model.specs.Matches.{may_be_empty}
use Rattle.content_automata.specs.Positions.{positions, firsts, places, first_of, places_of}
use Rattle.content_automata.specs.Walks.{place_at, leads, step}
use Rattle.content_automata.specs.Counts.{pairs_at, moves_from, pairs, beginnings}

-- (a, b?, (a | c)*), with a, b and c the elements 0, 1 and 2
abbrev model : Model
model = sequence (more_models (one 0) (more_models (optional (one 1)) (more_models (any_number (choice (more_models (one 0) (more_models (one 2) no_models)))) no_models)))

pub four : positions model ≡ 4
unfolding positions
four = refl

pub begins_with_a : (first_of model).positions ≡ 0 ∷ []
unfolding positions firsts may_be_empty
begins_with_a = refl

pub behind_the_first : (step (place_at (places_of model)) (first_of model) 0).positions ≡ 1 ∷ 2 ∷ 3 ∷ []
unfolding positions firsts places may_be_empty
behind_the_first = refl

pub whole : leads (place_at (places_of model)) (first_of model) (0 ∷ 1 ∷ 2 ∷ 0 ∷ []) ≡ true
unfolding positions firsts places may_be_empty
whole = refl

pub a_second_b : leads (place_at (places_of model)) (first_of model) (0 ∷ 1 ∷ 1 ∷ []) ≡ false
unfolding positions firsts places may_be_empty
a_second_b = refl

-- 0 with 1, 2 and 3; 1 with 2 and 3; 2 and 3 with both
pub nine_pairs : pairs_at (places_of model) ≡ 9
unfolding positions firsts places may_be_empty
nine_pairs = refl

pub counted_nine : pairs model 0 ≡ 9
unfolding pairs beginnings may_be_empty
counted_nine = refl

-- of the second and the third position
pub four_moves : moves_from (places_of model) (1 ∷ 2 ∷ []) ≡ 4
unfolding positions firsts places may_be_empty
four_moves = refl

-- (a|b)*
pub four_pairs : pairs (any_number (choice (more_models (one 0) (more_models (one 1) no_models)))) 0 ≡ 4
unfolding pairs beginnings may_be_empty
four_pairs = refl

-- ((a)*)*: both repetitions lead back
pub two_ways : pairs_at (places_of (any_number (any_number (one 0)))) ≡ 2
unfolding positions firsts places may_be_empty
two_ways = refl
