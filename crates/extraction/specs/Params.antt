-- The parameters of functions, and the slots that are null where a function is entered.
use Rattle.std.specs.Prelude.{◌≡◌, ◌⊎◌, ◌↔◌, ◌&&◌, not, ℕ, Bool, List, Some, Contains, slice_get, nat_eq}
use Rattle.std.specs.List.{list_any}
use Rattle.flow_code.specs.Points.{PlainFlowFunction}
use Rattle.loose_sets.specs.Functions.{is_owned}

-- the slot is a parameter of the function of a number
pub record IsParam (fs : List PlainFlowFunction) (n y : ℕ) : Type 0 where
  pub function : PlainFlowFunction
  pub is : slice_get fs n ≡ Some function
  pub it : Contains function.params_of y

-- exactly the parameters of all functions, each with the number of its function
pub record AreParams (fs : List PlainFlowFunction) (keys : List (ℕ × ℕ)) : Type 0 where
  pub each : (n y : ℕ) → Contains keys (n, y) ↔ IsParam fs n y

-- exactly these parameters of one function were added
pub record Puts (old new : List (ℕ × ℕ)) (m : ℕ) (ys : List ℕ) : Type 0 where
  pub each : (n y : ℕ) → Contains new (n, y) ↔ (Contains old (n, y) ⊎ ((n ≡ m) × Contains ys y))

-- whether two pairs are the same
abbrev pub same_pair : (ℕ × ℕ) → (ℕ × ℕ) → Bool
same_pair a b = nat_eq a.0 b.0 && nat_eq a.1 b.1

-- whether the slot is no parameter of the function of this number
abbrev pub is_no_param : List (ℕ × ℕ) → ℕ → ℕ → Bool
is_no_param keys n y = not (list_any (same_pair (n, y)) keys)

-- one of the function's own slots, and no parameter
abbrev pub is_null : List PlainFlowFunction → List (ℕ × ℕ) → ℕ → ℕ → Bool
is_null fs keys n y = is_owned (slice_get fs n) y && is_no_param keys n y
