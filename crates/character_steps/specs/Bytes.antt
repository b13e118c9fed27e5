-- Characters by their bytes (RFC 3629, 4).
use Rattle.std.specs.Prelude.{ℕ, Bool, true, false, ◌==◌, ◌&&◌, if◌then◌else◌, List, [], ◌∷◌, Option, Some, None, bytes_eq}
use Rattle.std.specs.Char.{encode_utf8}
use Rattle.std.specs.Int.{is_in_range}
use Rattle.std.specs.Str.{chars}
use Rattle.xml_text.specs.Characters.{is_character}

-- one character with this UTF-8
abbrev pub only : List ℕ → List ℕ → Option ℕ
only [] bytes = None
only (c ∷ []) bytes = if is_character c && bytes_eq (encode_utf8 c) bytes then Some c else None
only (c ∷ d ∷ cs) bytes = None

-- the character of XML whose UTF-8 the bytes are
unfoldable pub decoded : List ℕ → Option ℕ
decoded bytes = only (chars bytes) bytes

-- a byte behind the first of a character
abbrev pub continues : ℕ → Bool
continues b = is_in_range 0x80 0xBF b

-- the second byte of a character of three or four bytes, by its first
abbrev pub is_second : ℕ → ℕ → Bool
is_second a b = is_in_range (if a == 0xE0 then 0xA0 else (if a == 0xF0 then 0x90 else 0x80))
    (if a == 0xED then 0x9F else (if a == 0xF4 then 0x8F else 0xBF)) b

-- the first bytes of a character, but not all
unfoldable pub is_begun : List ℕ → Bool
is_begun [] = true
is_begun (a ∷ []) = is_in_range 0xC2 0xF4 a
is_begun (a ∷ b ∷ []) = is_in_range 0xE0 0xF4 a && is_second a b
is_begun (a ∷ b ∷ c ∷ []) = is_in_range 0xF0 0xF4 a && is_second a b && continues c
is_begun (a ∷ b ∷ c ∷ d ∷ bytes) = false
