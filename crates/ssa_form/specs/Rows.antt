-- What a join joins, by what leads to its point. No public clause cites it.
use Rattle.std.specs.Prelude.{◌-◌, ◌≤◌, ◌&&◌, map, length, Contains, ℕ, Bool, if◌then◌else◌, nat_le, nat_lt, List, [], ◌∷◌, Option, Some, None, slice_get}
use Rattle.flow_code.specs.Points.{PlainFlowFunction}
use Rattle.flow_graph.specs.declared.arrivals.Arrival.{Arrival}
use Rattle.flow_graph.specs.declared.arrivals.Arrival.TheVariants.{Edge, Entry}
use Rattle.flow_graph.specs.Arrivals.{target}
use Rattle.numbered_sets.specs.Places.{places_of}
use Rattle.loose_sets.specs.Reaching.{at_entry}
use Rattle.loose_sets.specs.Versions.{PlainVersion, of_definition}

-- the slot is one of the function's own
unfoldable pub owns : PlainFlowFunction → ℕ → Bool
owns g x = nat_le g.first_slot_of x && nat_lt (x - g.first_slot_of) g.slots_of

-- the version of a slot that comes from a point, by the first point of its row and what is found behind rows
abbrev pub link_from : Option ℕ → (ℕ → ℕ → PlainVersion) → ℕ → List PlainVersion
link_from None behind x = []
link_from (Some h) behind x = behind h x ∷ []

-- the version of a slot that comes by an entry of a function: its definition there, where the slot is the function's own
abbrev pub link_into : Option PlainFlowFunction → ℕ → ℕ → List PlainVersion
link_into None f x = []
link_into (Some g) f x = if owns g x then of_definition (at_entry f x) ∷ [] else []

-- the version of a slot that comes by an arrival
unfoldable pub link_of : List PlainFlowFunction → List ℕ → (ℕ → ℕ → PlainVersion) → ℕ → Arrival → List PlainVersion
link_of fs heads behind x (Edge q) = link_from (slice_get heads q) behind x
link_of fs heads behind x (Entry f) = link_into (slice_get fs f) f x

-- the version of a slot that comes by an arrival, if there is one
abbrev pub link_by : List PlainFlowFunction → List ℕ → (ℕ → ℕ → PlainVersion) → ℕ → Option (ℕ × Arrival) → List PlainVersion
link_by fs heads behind x None = []
link_by fs heads behind x (Some a) = link_of fs heads behind x a.1

-- by the arrival at a place of their list
unfoldable pub link_at : List PlainFlowFunction → List ℕ → (ℕ → ℕ → PlainVersion) → ℕ → List (ℕ × Arrival) → ℕ
    → List PlainVersion
link_at fs heads behind x all i = link_by fs heads behind x (slice_get all i)

-- all versions that come by what leads to a point, at most one by each
pub record IsRow (fs : List PlainFlowFunction) (heads : List ℕ) (behind : ℕ → ℕ → PlainVersion) (all : List (ℕ × Arrival))
    (p x : ℕ) (row : List PlainVersion) : Type 0 where
  pub each : (v : PlainVersion) → Contains row v → (a : Arrival) × Contains all (p, a) × Contains (link_of fs heads behind x a) v
  pub all_are : (a : Arrival) (v : PlainVersion) → Contains all (p, a) → Contains (link_of fs heads behind x a) v → Contains row v
  pub few : length row ≤ length (places_of (map target all) p 0)
