-- The positions of a content model, and what may come behind each of them (Glushkov 1961). A position is a place where
-- an element is named; positions are numbered from left to right, those of a model from its base on.
use Rattle.std.specs.Prelude.{ℕ, ◌+◌, Bool, true, ◌&&◌, if◌then◌else◌, List, [], ◌∷◌, ◌++◌}
use Rattle.dtd_model.specs.Table.{Model, one, sequence, choice, optional, any_number, at_least_one, Models, no_models, more_models}
use Rattle.dtd_model.specs.Matches.{may_be_empty, all_may_be_empty}

-- what may come next: one of these positions, or the end
pub record Next : Type 0 where
  pub positions : List ℕ
  pub whole : Bool

-- the element at a position, and what may come behind it
pub record Position : Type 0 where
  pub element : ℕ
  pub behind : Next

-- how many positions a model has
unfoldable mutual
  -- how many positions a model has: one for each place where an element is named
  pub positions : Model → ℕ
  positions (one e) = 1
  positions (sequence ms) = positions_in ms
  positions (choice ms) = positions_in ms
  positions (optional m) = positions m
  positions (any_number m) = positions m
  positions (at_least_one m) = positions m

  -- how many positions models have together
  pub positions_in : Models → ℕ
  positions_in no_models = 0
  positions_in (more_models m ms) = positions m + positions_in ms

-- the positions that a match may begin with, from this base on
unfoldable mutual
  -- the positions that a match of the model may begin with, from this base on
  pub firsts : ℕ → Model → List ℕ
  firsts base (one e) = base ∷ []
  firsts base (sequence ms) = firsts_in_turn base ms
  firsts base (choice ms) = firsts_of_each base ms
  firsts base (optional m) = firsts base m
  firsts base (any_number m) = firsts base m
  firsts base (at_least_one m) = firsts base m

  -- of a sequence: those of its first part, and where that may be empty those of the others
  pub firsts_in_turn : ℕ → Models → List ℕ
  firsts_in_turn base no_models = []
  firsts_in_turn base (more_models m ms) = firsts base m ++ (if may_be_empty m then firsts_in_turn (base + positions m) ms else [])

  -- of a choice: those of each of its parts, whose positions follow one another
  pub firsts_of_each : ℕ → Models → List ℕ
  firsts_of_each base no_models = []
  firsts_of_each base (more_models m ms) = firsts base m ++ firsts_of_each (base + positions m) ms

-- what may come next where a model is to come, and then what is given
abbrev pub before : ℕ → Model → Next → Next
before base m next = record {
  positions = firsts base m ++ (if may_be_empty m then next.positions else []);
  whole = may_be_empty m && next.whole;
}

-- what may come next where models are to come in turn, and then what is given
abbrev pub before_all : ℕ → Models → Next → Next
before_all base ms next = record {
  positions = firsts_in_turn base ms ++ (if all_may_be_empty ms then next.positions else []);
  whole = all_may_be_empty ms && next.whole;
}

-- what may come next behind a model that may come again
abbrev pub again : ℕ → Model → Next → Next
again base m next = record { positions = firsts base m ++ next.positions; whole = next.whole }

-- the positions of a model in order, where this may come behind it
unfoldable mutual
  -- the positions of a model in order from this base on, where this may come behind the model
  pub places : ℕ → Model → Next → List Position
  places base (one e) next = record { element = e; behind = next } ∷ []
  places base (sequence ms) next = places_in_turn base ms next
  places base (choice ms) next = places_of_each base ms next
  places base (optional m) next = places base m next
  places base (any_number m) next = places base m (again base m next)
  places base (at_least_one m) next = places base m (again base m next)

  -- of a sequence: behind a part come those behind it
  pub places_in_turn : ℕ → Models → Next → List Position
  places_in_turn base no_models next = []
  places_in_turn base (more_models m ms) next =
      places base m (before_all (base + positions m) ms next) ++ places_in_turn (base + positions m) ms next

  -- of a choice: behind each part comes what may come behind the choice
  pub places_of_each : ℕ → Models → Next → List Position
  places_of_each base no_models next = []
  places_of_each base (more_models m ms) next = places base m next ++ places_of_each (base + positions m) ms next

-- nothing may come behind a whole model
abbrev pub at_end : Next
at_end = record { positions = []; whole = true }

-- what may come first in an element, and the positions of its model
abbrev pub first_of : Model → Next
first_of m = before 0 m at_end

-- the positions of an element's content model in order, from 0 on
abbrev pub places_of : Model → List Position
places_of m = places 0 m at_end
