-- What is handed in for one parameter, found by the number of its key.
use Rattle.std.specs.Prelude.{ℕ, zero, suc, ◌&&◌, if◌then◌else◌, List, [], ◌∷◌, Option, Some, None, flat_map, nat_eq, slice_get}
use Rattle.std.specs.Option.{option_map}
use Rattle.std.specs.declared.vec.Vec.{Vec}
use Rattle.std.specs.declared.alloc.Global.{Global}
use Rattle.flow_graph.specs.Handed.{Handing}

-- the first place of a key
unfoldable pub number_in : List (ℕ × ℕ) → ℕ → ℕ → Option ℕ
number_in [] n y = None
number_in (k ∷ ks) n y = if nat_eq k.0 n && nat_eq k.1 y then Some zero else option_map suc (number_in ks n y)

-- the members of a vector, if there is one
abbrev pub items_of : Option (Vec ℕ Global) → List ℕ
items_of None = []
items_of (Some v) = v.items

-- the places of the items that have the key of this number
abbrev pub places_of : List (Vec ℕ Global) → Option ℕ → List ℕ
places_of places None = []
places_of places (Some k) = items_of (slice_get places k)

-- the point of the call and the slot of the argument, if there is an item
abbrev pub pair_of : Option Handing → List (ℕ × ℕ)
pair_of None = []
pair_of (Some h) = h.1 ∷ []

-- the same for the item at a place
abbrev pub pair_at : List Handing → ℕ → List (ℕ × ℕ)
pair_at all i = pair_of (slice_get all i)

-- the pairs of a point and a slot for a function and a parameter
abbrev pub pairs_under : List Handing → List (ℕ × ℕ) → List (Vec ℕ Global) → ℕ → ℕ → List (ℕ × ℕ)
pairs_under all keys places n y = flat_map (pair_at all) (places_of places (number_in keys n y))
