-- Chains of the places at which numbers stand in a list.
use Rattle.std.specs.Prelude.{◌≡◌, ◌≢◌, ◌<◌, ◌≤◌, ◌⊎◌, ℕ, List, Some, length, slice_get}

-- no place of a list
abbrev pub no_place : ℕ
no_place = 18446744073709551615

-- the last of the first so many places of a list at which a number stands, or no place where it stands at none of them
pub record IsLast (keys : List ℕ) (so_many number place : ℕ) : Type 0 where
  pub stands : (place ≡ no_place) ⊎ ((place < so_many) × (slice_get keys place ≡ Some number))
  pub last : (k : ℕ) → k < so_many → slice_get keys k ≡ Some number → (k ≤ place) × (place ≢ no_place)

-- by each number, the last place of the list at which it stands
abbrev pub AreLast : List ℕ → List ℕ → Type 0
AreLast keys last = (number place : ℕ) → slice_get last number ≡ Some place → IsLast keys (length keys) number place

-- by each place, the last one before it at which the same number stands
pub record AreBefore (keys before : List ℕ) : Type 0 where
  pub long : length before ≡ length keys
  pub few : length keys < no_place
  pub each : (k number place : ℕ) → slice_get keys k ≡ Some number → slice_get before k ≡ Some place → IsLast keys k number place

-- the chains of the numbers of a list
pub record AreChains (keys last before : List ℕ) : Type 0 where
  pub ends : AreLast keys last
  pub links : AreBefore keys before

-- each place leads to one before it, or to none of the list
abbrev pub Falls : List ℕ → Type 0
Falls before = (place next : ℕ) → slice_get before place ≡ Some next → next < length before → next < place
