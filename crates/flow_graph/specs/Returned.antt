-- What the points of a function return, as pairs of a point and a slot.
use Rattle.std.specs.Prelude.{ℕ, zero, suc, List, [], ◌∷◌, ◌++◌, Option, Some, None, length, slice_get}
use Rattle.flow_code.specs.Points.{PlainPoint, return_point, PlainFlowFunction}

-- the slot that a point returns
unfoldable pub returned_slot : PlainPoint → Option ℕ
returned_slot (return_point y) = Some y
returned_slot _ = None

-- the slot that a point returns, if there is the point and it returns one
abbrev pub return_slots : Option PlainPoint → Option ℕ
return_slots None = None
return_slots (Some k) = returned_slot k

-- the point and the slot, if there is one
abbrev pub paired : ℕ → Option ℕ → List (ℕ × ℕ)
paired q None = []
paired q (Some y) = (q, y) ∷ []

-- of so many points, from a number on
unfoldable pub returned_from : List PlainPoint → ℕ → ℕ → List (ℕ × ℕ)
unfolding returned_slot
returned_from points q zero = []
returned_from points q (suc n) = paired q (return_slots (slice_get points q)) ++ returned_from points (suc q) n

-- each point of a function that returns a slot, with the slot, in the order of points
abbrev pub returned_pairs : List PlainPoint → PlainFlowFunction → List (ℕ × ℕ)
returned_pairs points g = returned_from points g.first_point_of (length g.points_of)
