-- The names in a list of scripts, one a line; this project's own.
use Rattle.std.specs.Prelude.{◌≡◌, ◌≤◌, ◌+◌, ◌++◌, ◌==◌, ◌⊎◌, ℕ, suc, List, [], ◌∷◌, length, map, if◌then◌else◌, ⊤}
use Rattle.std.specs.Str.{IsUtf8}
use Rattle.site_check.specs.declared.list_refusal.TheConstants.{NAMES_LIMIT}
use Rattle.site_check.specs.declared.list_refusal.ListRefusal.{ListRefusal}
use Rattle.site_check.specs.declared.list_refusal.ListRefusal.TheVariants.{NotUtf8, Names, Memory}

-- lines with one byte more at the head of the first
abbrev pub put_first : ℕ → List (List ℕ) → List (List ℕ)
put_first byte [] = (byte ∷ []) ∷ []
put_first byte (line ∷ lines) = (byte ∷ line) ∷ lines

-- the lines of a text: each ends with LF (10), the last may end without
abbrev pub lines_of : List ℕ → List (List ℕ)
lines_of [] = []
lines_of (byte ∷ bytes) = if byte == 10 then [] ∷ lines_of bytes else put_first byte (lines_of bytes)

-- a line without a CR (13) at its end, since lines end with CR LF too
abbrev pub without_return : List ℕ → List ℕ
without_return [] = []
without_return (byte ∷ []) = if byte == 13 then [] else byte ∷ []
without_return (byte ∷ next ∷ bytes) = byte ∷ without_return (next ∷ bytes)

-- the lines of a text without their ends
abbrev pub lines_in : List ℕ → List (List ℕ)
lines_in text = map without_return (lines_of text)

-- the lines that are not empty
abbrev pub names_of : List (List ℕ) → List (List ℕ)
names_of [] = []
names_of ([] ∷ lines) = names_of lines
names_of ((byte ∷ bytes) ∷ lines) = (byte ∷ bytes) ∷ names_of lines

-- the names in a list: one a line, and empty lines are passed over
abbrev pub names_in : List ℕ → List (List ℕ)
names_in text = names_of (lines_in text)

-- each line is UTF-8 (RFC 3629)
abbrev pub AreUtf8 : List (List ℕ) → Type 0
AreUtf8 [] = ⊤
AreUtf8 (line ∷ lines) = IsUtf8 line × AreUtf8 lines

-- of lines, the first of which has this number, the first that is no UTF-8 has that one
abbrev pub IsFirstBad : (number : ℕ) → List (List ℕ) → ℕ → Type 0
IsFirstBad number [] line = ⊥
IsFirstBad number (first ∷ lines) line =
    ((IsUtf8 first → ⊥) × (line ≡ number)) ⊎ (IsUtf8 first × IsFirstBad (suc number) lines line)

-- a list has at least one name and at most 1,000
abbrev pub IsCount : ℕ → Type 0
IsCount count = (1 ≤ count) × (count ≤ NAMES_LIMIT)

-- the text is a list: each line is UTF-8, and it has so many names
abbrev pub IsList : List ℕ → Type 0
IsList text = AreUtf8 (lines_in text) × IsCount (length (names_in text))

-- why a text is no list: its first line that is no UTF-8, from 1; or, where each is, a count of names that is none; and want of memory
abbrev pub IsNoList : List ℕ → ListRefusal → Type 0
IsNoList text (NotUtf8 line) = IsFirstBad 1 (lines_in text) line
IsNoList text (Names count) = AreUtf8 (lines_in text) × (count ≡ length (names_in text)) × (IsCount count → ⊥)
IsNoList text Memory = ⊤

-- how many bytes stand before the first LF, or in all; no public clause cites this
abbrev pub line_length : List ℕ → ℕ
line_length [] = 0
line_length (byte ∷ bytes) = if byte == 10 then 0 else suc (line_length bytes)

-- a list is read so far: these are the names up to the rest, whose first line has this number; no public clause cites this
pub record HasRead (text rest : List ℕ) (number : ℕ) (names : List (List ℕ)) : Type 0 where
  pub names_are : names ++ names_of (lines_in rest) ≡ names_in text
  pub utf8 : AreUtf8 (lines_in rest) → AreUtf8 (lines_in text)
  pub first_bad : (line : ℕ) → IsFirstBad number (lines_in rest) line → IsFirstBad 1 (lines_in text) line
  pub bound : number + length rest ≤ length text + 1
