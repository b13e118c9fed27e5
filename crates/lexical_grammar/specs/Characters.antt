-- The classes of bytes of the lexical grammar, and words on what stands at the head of a list of bytes.
-- A name is a letter or an underscore and then letters, digits and underscores (PHP manual, "Variables: Basics"); here letters are those of
-- ASCII.
use Rattle.std.specs.Prelude.{ℕ, suc, ◌+◌, Bool, false, ◌&&◌, ◌||◌, ◌==◌, nat_eq, nat_le, if◌then◌else◌, List, [], ◌∷◌, fold, codes, ◌*◌, ◌-◌}
use Rattle.std.specs.List.{starts_with, prefix_len}

-- one of `0`..`9`
abbrev pub is_digit : ℕ → Bool
is_digit b = nat_le 48 b && nat_le b 57

-- an ASCII letter of either case
abbrev pub is_letter : ℕ → Bool
is_letter b = (nat_le 65 b && nat_le b 90) || (nat_le 97 b && nat_le b 122)

-- what a name may begin with: a letter or `_`
abbrev pub is_name_start : ℕ → Bool
is_name_start b = is_letter b || b == 95

-- what may stand in a name behind its first byte: a letter, `_` or a digit
abbrev pub is_name_byte : ℕ → Bool
is_name_byte b = is_name_start b || is_digit b

-- a space or a tab
abbrev pub is_gap : ℕ → Bool
is_gap b = b == 32 || b == 9

-- LF or CR
abbrev pub is_line_end : ℕ → Bool
is_line_end b = b == 10 || b == 13

-- what may stand between two tokens
abbrev pub is_blank : ℕ → Bool
is_blank b = is_gap b || is_line_end b

-- a byte beyond ASCII
abbrev pub is_high : ℕ → Bool
is_high b = nat_le 128 b

-- an ASCII letter without its case, and every other byte as it is
abbrev pub lower : ℕ → ℕ
lower b = if nat_le 65 b && nat_le b 90 then b + 32 else b

-- the bytes begin with this text
abbrev pub begins : List ℕ → List ℕ → Bool
begins text bytes = starts_with nat_eq bytes text

-- there is a first byte, and it is of this class
abbrev pub head_is : (ℕ → Bool) → List ℕ → Bool
head_is class [] = false
head_is class (b ∷ bytes) = class b

-- how many bytes stand before the first place from which on the test holds; all of them where there is none
abbrev pub before : (List ℕ → Bool) → List ℕ → ℕ
before test [] = 0
before test (b ∷ bytes) = if test (b ∷ bytes) then 0 else suc (before test bytes)

-- how long the name is that stands at the head; 0 where none does
abbrev pub name_length : List ℕ → ℕ
name_length bytes = if head_is is_name_start bytes then prefix_len is_name_byte bytes else 0

-- how long the run of digits is
abbrev pub digits_length : List ℕ → ℕ
digits_length bytes = prefix_len is_digit bytes

-- the number that the digits stand for
abbrev pub value_of : List ℕ → ℕ
value_of digits = fold (λ n d. 10 * n + (d - 48)) 0 digits

-- the largest integer of the language
abbrev pub largest : ℕ
largest = 9223372036854775807

-- how long the line end is: CR LF, or LF or CR alone; 0 where none is
abbrev pub newline_length : List ℕ → ℕ
newline_length bytes = if begins (codes "\r\n") bytes then 2 else if head_is is_line_end bytes then 1 else 0
