-- How tokens are spelled by whoever writes them.
use Rattle.std.specs.Prelude.{◌≡◌, ℕ, ◌≤◌, true, false, ◌||◌, ◌==◌, if◌then◌else◌, List, [], ◌∷◌}
use Rattle.std.specs.List.{list_all}
use Rattle.lexical_grammar.specs.Characters.{is_name_start, is_name_byte, is_digit, value_of, largest, head_is}
use Rattle.lexical_grammar.specs.Words.{has_leading_zero, goes_on_as_float}

-- a name: a letter or an underscore, and then letters, digits and underscores
abbrev pub IsName : List ℕ → Type 0
IsName [] = ⊥
IsName (b ∷ more) = (is_name_start b ≡ true) × (list_all is_name_byte more ≡ true)

-- an integer literal: digits without a leading zero, in range
abbrev pub IsInteger : List ℕ → Type 0
IsInteger [] = ⊥
IsInteger (b ∷ more) = (is_digit b ≡ true) × (list_all is_digit more ≡ true) × (has_leading_zero (b ∷ more) ≡ false)
    × (value_of (b ∷ more) ≤ largest)

-- what may stand behind a name, and behind an integer
abbrev pub EndsName : List ℕ → Type 0
EndsName rest = head_is is_name_byte rest ≡ false

-- what may stand behind an integer: no byte of a name, no digit, and nothing by which it would go on as a float
abbrev pub EndsInteger : List ℕ → Type 0
EndsInteger rest = EndsName rest × (head_is is_digit rest ≡ false) × (goes_on_as_float rest ≡ false)

-- how a text is written in single quotes, behind the first one
abbrev pub quoted : List ℕ → List ℕ
quoted [] = 39 ∷ []
quoted (b ∷ bytes) = if b == 39 || b == 92 then 92 ∷ b ∷ quoted bytes else b ∷ quoted bytes
