-- The plain form of the code's positions.
use Rattle.std.specs.Prelude.{ℕ, Bool, ◌==◌, ◌||◌, List, ◌++◌, map, set, Option, Some, None, if◌then◌else◌, slice_index_or}
use Rattle.std.specs.List.{list_any}
use Rattle.content_automata.specs.Positions.{Next, Position}
use Rattle.content_automata.specs.Sets.{names, set_of, set_step}
use Rattle.content_automata.specs.Walks.{place_at, joined}
use Rattle.content_automata.specs.declared.places.Behind.{Behind}
use Rattle.content_automata.specs.declared.places.Place.{Place}

-- the plain form of what may come next
abbrev pub next_of : Behind → Next
next_of b = record { positions = b.positions.items; whole = b.whole }

-- the plain form of a position
abbrev pub position_of : Place → Position
position_of p = record { element = p.element; behind = next_of p.behind }

-- the plain form of positions in their order
abbrev pub positions_of : List Place → List Position
positions_of places = map position_of places

-- the set behind an element, where one is
abbrev pub step_of : List Position → List Bool → ℕ → Option (List Bool)
step_of places flags e = if names places flags e then Some (set_step places flags e) else None

-- what may come next, where something may
abbrev pub slot_of : Option Behind → Option Next
slot_of None = None
slot_of (Some b) = Some (next_of b)

-- what may come next by either
abbrev pub either : Next → Next → Next
either a b = record { positions = a.positions ++ b.positions; whole = a.whole || b.whole }

-- what may come next by either, or by the second alone where there is no first
abbrev pub joined_to : Option Next → Next → Next
joined_to None b = b
joined_to (Some a) b = either a b

-- what may come next behind the element of a position, and what may come behind the position besides
abbrev pub put_behind : List (Option Next) → Position → List (Option Next)
put_behind slots p = set slots p.element (Some (joined_to (slice_index_or slots p.element None) p.behind))

-- what may come next behind an element, where one of these positions names it
abbrev pub behind_of : List Position → List ℕ → ℕ → Option Next
behind_of places ps e = if list_any (λ p. e == (place_at places p).element) ps then Some (joined (place_at places) e ps) else None

-- the set of what may come next among so many positions, where something may
abbrev pub slot_set : ℕ → Option Next → Option (List Bool)
slot_set count None = None
slot_set count (Some next) = Some (set_of count next)
