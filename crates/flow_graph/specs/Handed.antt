-- What calls hand in: for a function and a parameter, the point of a call and the slot of the argument.
use Rattle.std.specs.Prelude.{◌≡◌, ◌↔◌, ◌≤◌, ◌&&◌, nat_eq, ℕ, suc, Bool, List, [], ◌∷◌, ◌++◌, length, Option, Some, None, slice_get, Contains}
use Rattle.std.specs.List.{count_by}
use Rattle.std.specs.declared.vec.Vec.{Vec}
use Rattle.std.specs.declared.alloc.Global.{Global}
use Rattle.numbered_sets.specs.Numbers.{AreDifferent}
use Rattle.flow_code.specs.Points.{PlainPoint, call_point, PlainFlowFunction}

-- the number of a function and the slot of its parameter; the point of a call and the slot of the argument
abbrev pub Handing : Type 0
Handing = (ℕ × ℕ) × (ℕ × ℕ)

-- a call of a function: each parameter with its argument, as far as there are both
unfoldable pub of_call : ℕ → ℕ → List ℕ → List ℕ → List Handing
of_call q n [] xs = []
of_call q n (y ∷ ys) [] = []
of_call q n (y ∷ ys) (x ∷ xs) = ((n, y), (q, x)) ∷ of_call q n ys xs

-- the slots of a function's parameters, if there is the function
abbrev pub params_of : Option PlainFlowFunction → List ℕ
params_of None = []
params_of (Some g) = g.params_of

-- what a point hands in: a call each argument, and any other point nothing
unfoldable pub at_point : List PlainFlowFunction → ℕ → PlainPoint → List Handing
unfolding of_call
at_point fs q (call_point x n args next) = of_call q n (params_of (slice_get fs n)) args
at_point fs q _ = []

-- the points in turn, from a number on
unfoldable pub handings_from : List PlainFlowFunction → ℕ → List PlainPoint → List Handing
unfolding at_point
handings_from fs q [] = []
handings_from fs q (k ∷ ks) = at_point fs q k ++ handings_from fs (suc q) ks

-- each item has the number of its key
pub record AreOwners (all : List Handing) (keys : List (ℕ × ℕ)) (owners : List ℕ) : Type 0 where
  pub long : length owners ≡ length all
  pub each : (i : ℕ) (h : Handing) → slice_get all i ≡ Some h → (k : ℕ) × (slice_get owners i ≡ Some k) × (slice_get keys k ≡ Some h.0)

-- the item at a place has the key of a number
pub record IsOf (all : List Handing) (keys : List (ℕ × ℕ)) (k i : ℕ) : Type 0 where
  pub item : Handing
  pub there : slice_get all i ≡ Some item
  pub key : slice_get keys k ≡ Some item.0

-- whether the item has the key
abbrev pub has_key : (ℕ × ℕ) → Handing → Bool
has_key key h = nat_eq key.0 h.0.0 && nat_eq key.1 h.0.1

-- for each key the places of its items, no more of them than items; each item has a key, and no key stands twice
pub record AreGroups (all : List Handing) (keys : List (ℕ × ℕ)) (places : List (Vec ℕ Global)) : Type 0 where
  pub different : AreDifferent keys
  pub long : length places ≡ length keys
  pub known : (i : ℕ) (h : Handing) → slice_get all i ≡ Some h → Contains keys h.0
  pub each : (k : ℕ) (v : Vec ℕ Global) → slice_get places k ≡ Some v → (i : ℕ) → Contains v.items i ↔ IsOf all keys k i
  pub few : (k : ℕ) (v : Vec ℕ Global) (key : ℕ × ℕ) → slice_get places k ≡ Some v → slice_get keys k ≡ Some key
      → length v.items ≤ count_by (has_key key) all
