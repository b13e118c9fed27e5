-- Names as they are written; this project's own.
use Rattle.std.specs.Prelude.{◌≡◌, ◌||◌, ◌&&◌, ◌==◌, ℕ, zero, suc, Bool, true, false, not, nat_lt, List, [], ◌∷◌, ◌++◌, Option, Some, None, take, codes, if◌then◌else◌}
use Rattle.std.specs.Int.{is_in_range}
use Rattle.std.specs.List.{list_all}
use Rattle.std.specs.Str.{encode_utf8_all}
use Rattle.hex.specs.Hex.{encode_lower}
use Rattle.xml_text.specs.Characters.{is_character}
use Rattle.character_steps.specs.Bytes.{decoded}
use Rattle.phpsa_texts.specs.declared.shown.TheConstants.{NAME_LIMIT}

-- a character that is written as it is: none that controls, none that separates lines or paragraphs (Unicode, Cc, Zl, Zp), and not the
-- backslash (92), which marks all others
abbrev pub is_plain : ℕ → Bool
is_plain c = nat_lt 0x1F c && not (c == 92) && not (is_in_range 0x7F 0x9F c) && not (is_in_range 0x2028 0x2029 c)

-- how many bytes of a character stand behind its first byte (RFC 3629, 3)
abbrev pub more_of : ℕ → ℕ
more_of byte = if nat_lt byte 0x80 then 0 else (if nat_lt byte 0xE0 then 1 else (if nat_lt byte 0xF0 then 2 else 3))

-- a character of XML 1.0 that is written as it is
abbrev pub is_written : Option ℕ → Bool
is_written None = false
is_written (Some c) = is_plain c

-- the UTF-8 of such a character stands at the head
abbrev pub begins_plain : List ℕ → Bool
begins_plain [] = false
begins_plain (byte ∷ bytes) = is_written (decoded (byte ∷ take (more_of byte) bytes))

-- `\xHH`
abbrev pub escaped : ℕ → List ℕ
escaped byte = codes "\\x" ++ encode_lower (byte ∷ [])

-- bytes as they are written, where so many of a character that is written as it is are still to come
abbrev pub shown_behind : ℕ → List ℕ → List ℕ
shown_behind more [] = []
shown_behind (suc more) (byte ∷ bytes) = byte ∷ shown_behind more bytes
shown_behind zero (byte ∷ bytes) =
    if begins_plain (byte ∷ bytes) then byte ∷ shown_behind (more_of byte) bytes else escaped byte ++ shown_behind zero bytes

-- the bytes of a name that are no such character stand as `\xHH`, one by one, and what is behind 4,096 bytes of the name is left out
unfoldable pub shown_name : List ℕ → List ℕ
shown_name name = shown_behind 0 (take NAME_LIMIT name)

-- the UTF-8 of characters that are written as they are, and backslashes: no byte of it is outside of UTF-8, controls or ends a line
unfoldable pub IsPrintable : List ℕ → Type 0
IsPrintable text = (cs : List ℕ) × (list_all (λ c. is_character c && (is_plain c || c == 92)) cs ≡ true) × (encode_utf8_all cs ≡ text)
