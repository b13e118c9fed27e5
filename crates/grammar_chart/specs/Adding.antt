-- Begun productions that are added, one for each place of a number.
use Rattle.std.specs.Prelude.{◌≡◌, ◌↔◌, ◌++◌, ℕ, List, Some, map, slice_get, Contains}
use Rattle.numbered_sets.specs.Numbers.{AreDifferent}

-- behind the old ones stand those of each place that is asked for, once
pub record AddsAsked {K : Type 0} (old new : List K) (f : ℕ → K) (Asked : ℕ → Type 0) : Type 0 where
  pub places : List ℕ
  pub different : AreDifferent places
  pub exactly : (place : ℕ) → Contains places place ↔ Asked place
  pub added : new ≡ old ++ map f places

-- those of the places at which a number stands in a list
abbrev pub AddsPlaces : {K : Type 0} → List K → List K → List ℕ → ℕ → (ℕ → K) → Type 0
AddsPlaces old new keys number f = AddsAsked old new f (λ place. slice_get keys place ≡ Some number)
