-- Values of a script as plain data (PHP manual, "Types"). Every other definition of this crate speaks of them.
use Rattle.std.specs.Prelude.{ℕ, ◌+◌, suc, max, ℤ, Bool, List, [], ◌∷◌}

-- a key of an array: an integer, or a text that is no canonical decimal integer (PHP manual, "Arrays")
pub data PlainKey : Type 0 where
  int_key : ℤ → PlainKey
  text_key : List ℕ → PlainKey

mutual
  -- null, a boolean, a 64-bit signed integer, a text of bytes, or an array
  pub data Plain : Type 0 where
    null : Plain
    flag : Bool → Plain
    int : ℤ → Plain
    text : List ℕ → Plain
    array : Pairs → Plain

  -- an array: its pairs of a key and a value, in the order in which the keys came
  pub data Pairs : Type 0 where
    empty : Pairs
    pair : PlainKey → Plain → Pairs → Pairs

-- the keys of an array, in their order
abbrev pub keys : Pairs → List PlainKey
keys empty = []
keys (pair k v ps) = k ∷ keys ps

abbrev mutual
  -- how many arrays stand in one another: 0 for a value that is none, and 1 for an array without arrays in it
  pub depth : Plain → ℕ
  depth null = 0
  depth (flag b) = 0
  depth (int z) = 0
  depth (text t) = 0
  depth (array ps) = suc (deepest ps)

  -- the depth of the deepest value of an array
  pub deepest : Pairs → ℕ
  deepest empty = 0
  deepest (pair k v ps) = max (depth v) (deepest ps)

abbrev mutual
  -- how many pairs an array holds, with all pairs of the arrays in it, and two for each of these arrays
  pub weight : Pairs → ℕ
  weight empty = 0
  weight (pair k v ps) = 1 + weight_of v + weight ps

  -- what a value adds to the weight of the array that it stands in: 2 and its own weight for an array, and 0 for any other value
  pub weight_of : Plain → ℕ
  weight_of null = 0
  weight_of (flag b) = 0
  weight_of (int z) = 0
  weight_of (text t) = 0
  weight_of (array ps) = 2 + weight ps
