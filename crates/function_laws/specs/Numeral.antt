-- The form of an integer: a minus or nothing, and digits.
use Rattle.std.specs.Prelude.{◌≡◌, ◌⊎◌, ℕ, true, List, [], ◌∷◌, ◌++◌}
use Rattle.plain_values.specs.Numeric.{is_numeral}

-- the text is a minus sign or nothing, and then a numeral
pub record IsSignedNumeral (t : List ℕ) : Type 0 where
  pub sign : List ℕ
  pub digits : List ℕ
  pub parts : t ≡ sign ++ digits
  pub signed : (sign ≡ []) ⊎ (sign ≡ 45 ∷ [])
  pub numeral : is_numeral digits ≡ true
