-- First bytes of a character that stand for others: the same bytes behind both make characters of XML (RFC 3629, 4; XML 1.0, 2.2).
use Rattle.std.specs.Prelude.{ℕ, ◌==◌, ◌&&◌, ◌||◌, if◌then◌else◌, List, [], ◌∷◌}
use Rattle.std.specs.Int.{is_in_range}
use Rattle.character_steps.specs.Bytes.{is_begun}

-- the first byte, of two bytes, of three or of four, where the second may be any that continues; each other first byte stays
abbrev pub first_alike : ℕ → ℕ
first_alike a =
    if is_in_range 0xC2 0xDF a then 0xC2
    else (if is_in_range 0xE1 0xEC a || a == 0xEE then 0xE1
    else (if is_in_range 0xF1 0xF3 a then 0xF1 else a))

-- two bytes, of three or of four; EF BF stay, since U+FFFE and U+FFFF are no characters of XML
abbrev pub second_alike : ℕ → ℕ → List ℕ
second_alike a b = if a == 0xEF && b == 0xBF then a ∷ b ∷ [] else (if is_in_range 0xE0 0xEF a then 0xE1 ∷ 0x80 ∷ [] else 0xF1 ∷ 0x80 ∷ [])

-- the first bytes that stand for these, one, two or three of an open character
abbrev pub alike : List ℕ → List ℕ
alike [] = []
alike (a ∷ []) = first_alike a ∷ []
alike (a ∷ b ∷ []) = second_alike a b
alike (a ∷ b ∷ c ∷ bytes) = 0xF1 ∷ 0x80 ∷ 0x80 ∷ []

-- the first bytes that stand for these; bytes that no character begins with stay
abbrev pub representative : List ℕ → List ℕ
representative bytes = if is_begun bytes then alike bytes else bytes
