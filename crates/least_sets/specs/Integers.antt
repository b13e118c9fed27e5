-- Integer texts: `0`, or an optional `-`, a digit from 1 to 9 and at most 18 digits more. The decimal forms of all integers of 64 bits are
-- among them, and those of some more.
use Rattle.std.specs.Prelude.{◌≡◌, ◌≤◌, ℕ, true, List, [], ◌∷◌, length}
use Rattle.std.specs.Char.{is_ascii_digit}
use Rattle.std.specs.List.{list_all}

-- 48 is `0`, 49 `1` and 57 `9`
pub record IsCounting (t : List ℕ) : Type 0 where
  pub first : ℕ
  pub more : List ℕ
  pub is : t ≡ first ∷ more
  pub least : 49 ≤ first
  pub most : first ≤ 57
  pub digits : list_all is_ascii_digit more ≡ true
  pub few : length more ≤ 18

-- 45 is `-`
pub data IsInteger : List ℕ → Type 0 where
  zero_text : IsInteger (48 ∷ [])
  above : (t : List ℕ) → IsCounting t → IsInteger t
  below : (t : List ℕ) → IsCounting t → IsInteger (45 ∷ t)
