-- Points that were made so far, and what it means that code was put behind them.
use Rattle.std.specs.Prelude.{◌≡◌, ℕ, ◌+◌, List, ◌∷◌, [], ◌++◌, length}
use Rattle.flow_code.specs.Points.{PlainPoint, PlainSource, set_point, jump_point}
use Rattle.flow_code.specs.Code.{Code}

-- the number of the first point, the points so far, and the next free slot
pub record Progress : Type 0 where
  pub first : ℕ
  pub points : List PlainPoint
  pub slot : ℕ

-- the number of the next point
abbrev pub place : Progress → ℕ
place s = s.first + length s.points

-- these points stand behind the old ones, and so many slots are taken
pub record Puts (old new : Progress) (points : List PlainPoint) (slots : ℕ) : Type 0 where
  pub first : new.first ≡ old.first
  pub points_are : new.points ≡ old.points ++ points
  pub slot : new.slot ≡ old.slot + slots

-- the code stands behind the old points, it has as many points as it says, and left this
pub record Emits {A : Type 0} (old new : Progress) (code : Code A) (given : A) : Type 0 where
  pub puts : Puts old new (code.points (place old) old.slot) code.slots
  pub size : length new.points ≡ length old.points + code.size
  pub gives : given ≡ code.gives old.slot

-- the next free slot is set to this, and it goes on at a point
pub record Sets (old new : Progress) (source : PlainSource) (next given : ℕ) : Type 0 where
  pub puts : Puts old new (set_point old.slot source next ∷ []) 1
  pub slot : given ≡ old.slot

-- a point is put behind the others, to be replaced once it is known where it leads; this is its index, and the number of the point behind
-- it
pub record Reserves (old new : Progress) (index behind : ℕ) : Type 0 where
  pub puts : Puts old new (jump_point 0 ∷ []) 0
  pub index_is : index ≡ length old.points
  pub behind_is : behind ≡ place old + 1

-- one point was replaced by another
pub record Replaces (old new : Progress) (index : ℕ) (point : PlainPoint) : Type 0 where
  pub first : new.first ≡ old.first
  pub points_are : (front : List PlainPoint) (there : PlainPoint) (behind : List PlainPoint) →
      old.points ≡ front ++ there ∷ behind → length front ≡ index → new.points ≡ front ++ point ∷ behind
  pub size : length new.points ≡ length old.points
  pub slot : new.slot ≡ old.slot

-- one point was replaced by another, these were put behind all, and so many slots are taken
pub record Closes (old new : Progress) (index : ℕ) (point : PlainPoint) (last : List PlainPoint) (slots : ℕ) : Type 0 where
  pub first : new.first ≡ old.first
  pub points_are : (front : List PlainPoint) (there : PlainPoint) (behind : List PlainPoint) →
      old.points ≡ front ++ there ∷ behind → length front ≡ index → new.points ≡ front ++ point ∷ (behind ++ last)
  pub size : length new.points ≡ length old.points + length last
  pub slot : new.slot ≡ old.slot + slots

-- how far numbers may go where a function begins
abbrev pub START_LIMIT : ℕ
START_LIMIT = 4611686018427387904
