-- The law of classes of bytes, as a statement.
use Rattle.std.specs.Prelude.{◌≡◌, ◌<◌, ◌↔◌, ℕ, Bool, true, List, [], ◌∷◌, None}
use Rattle.derivatives.specs.Expressions.{nothing, Matches}
use Rattle.byte_forms.specs.Ranges.{ranges_below}

-- the text is one byte below the bound, and passes the test
pub record IsByteBelow (test : ℕ → Bool) (bound : ℕ) (text : List ℕ) : Type 0 where
  pub byte : ℕ
  pub below : byte < bound
  pub passes : test byte ≡ true
  pub is : byte ∷ [] ≡ text

-- the ranges below a bound match exactly one byte that passes
abbrev pub ByteIsMatched : Type 0
ByteIsMatched = (test : ℕ → Bool) (bound : ℕ) (text : List ℕ) → Matches (ranges_below test bound None nothing) text ↔ IsByteBelow test bound text
