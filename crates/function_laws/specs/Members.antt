-- The values of an array that are texts.
use Rattle.std.specs.Prelude.{◌≡◌, ◌⊎◌, ℕ, List}
use Rattle.plain_values.specs.Plain.{Pairs, text, array, empty, pair}

-- the text is the value of some member
abbrev pub HasText : Pairs → List ℕ → Type 0
HasText empty t = ⊥
HasText (pair k v ps) t = (v ≡ text t) ⊎ HasText ps t
