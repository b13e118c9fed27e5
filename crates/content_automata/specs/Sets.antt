-- Sets of positions, as the states of a content model: one truth value for the end of the model, and then one for each
-- of its positions. So two sets are equal exactly where the same positions may come next, and the end too or not.
use Rattle.std.specs.Prelude.{ℕ, suc, Bool, true, false, ◌==◌, if◌then◌else◌, List, [], ◌∷◌, length, replicate, set, Option, Some, None}
use Rattle.std.specs.List.{list_any}
use Rattle.dtd_model.specs.Table.{Model}
use Rattle.content_automata.specs.Positions.{Next, Position, first_of, places_of}
use Rattle.content_automata.specs.Walks.{place_at, joined}

-- the flags with these raised
abbrev pub raised : List Bool → List ℕ → List Bool
raised flags [] = flags
raised flags (p ∷ ps) = raised (set flags p true) ps

-- the set of what may come next, among so many positions
abbrev pub set_of : ℕ → Next → List Bool
set_of count next = next.whole ∷ raised (replicate count false) next.positions

-- whether the end is in the set
abbrev pub has_end : List Bool → Bool
has_end [] = false
has_end (b ∷ bs) = b

-- the places of the flags that are raised, counted from this number on
abbrev pub raised_from : ℕ → List Bool → List ℕ
raised_from n [] = []
raised_from n (true ∷ bs) = n ∷ raised_from (suc n) bs
raised_from n (false ∷ bs) = raised_from (suc n) bs

-- the positions in the set
abbrev pub members : List Bool → List ℕ
members [] = []
members (b ∷ bs) = raised_from 0 bs

-- some position in the set names the element
abbrev pub names : List Position → List Bool → ℕ → Bool
names places flags e = list_any (λ p. e == (place_at places p).element) (members flags)

-- the set behind the element
abbrev pub set_step : List Position → List Bool → ℕ → List Bool
set_step places flags e = set_of (length places) (joined (place_at places) e (members flags))

-- the set behind these elements, where each is named in turn
abbrev pub set_walk : List Position → List Bool → List ℕ → Option (List Bool)
set_walk places flags [] = Some flags
set_walk places flags (e ∷ es) = if names places flags e then set_walk places (set_step places flags e) es else None

-- the set before a match of the model
abbrev pub first_set : Model → List Bool
first_set m = set_of (length (places_of m)) (first_of m)

-- the set behind these elements, of a model
abbrev pub set_behind : Model → List ℕ → Option (List Bool)
set_behind m es = set_walk (places_of m) (first_set m) es

-- the set is there and has the end
abbrev pub is_whole : Option (List Bool) → Bool
is_whole None = false
is_whole (Some flags) = has_end flags
