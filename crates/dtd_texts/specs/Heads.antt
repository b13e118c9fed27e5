-- What may stand at the head of the bytes (XML 1.0, 2.3 and 4.1).
use Rattle.std.specs.Prelude.{ℕ, ◌+◌, Bool, true, false, ◌&&◌, ◌||◌, ◌==◌, nat_eq, nat_lt, if◌then◌else◌, List, [], ◌∷◌, take, drop, codes, bytes_eq}
use Rattle.std.specs.List.{starts_with, prefix_len}
use Rattle.std.specs.Char.{is_ascii_digit, is_ascii_hexdigit}
use Rattle.xml_text.specs.Characters.{is_blank, is_character}
use Rattle.xml_text.specs.Names.{begins_name, in_name}
use Rattle.dtd_model.specs.References.{number_written}

-- `"` or `'`
abbrev pub is_quote : ℕ → Bool
is_quote b = b == 34 || b == 39

-- the two texts are the same, byte by byte
abbrev pub same : List ℕ → List ℕ → Bool
same a b = bytes_eq a b

-- the bytes begin with this text
abbrev pub begins : List ℕ → List ℕ → Bool
begins text bytes = starts_with nat_eq bytes text

-- there is a first byte, and it is of this class
abbrev pub head_is : (ℕ → Bool) → List ℕ → Bool
head_is class [] = false
head_is class (b ∷ bytes) = class b

-- how much white space stands there (2.3, S)
abbrev pub blanks_length : List ℕ → ℕ
blanks_length bytes = prefix_len is_blank bytes

-- how long the name is that stands there; 0 where none does (2.3, Name)
unfoldable pub name_length : List ℕ → ℕ
name_length bytes = if head_is begins_name bytes then prefix_len in_name bytes else 0

-- a sign, a name and a semicolon: how long the name is; 0 where they do not stand there
unfoldable pub named_length : ℕ → List ℕ → ℕ
named_length sign bytes =
    if head_is (nat_eq sign) bytes
    then (if head_is (nat_eq 59) (drop (1 + name_length (drop 1 bytes)) bytes) then name_length (drop 1 bytes) else 0) else 0

-- the name in a parameter entity reference `%name;` (4.1, PEReference)
abbrev pub reference_length : List ℕ → ℕ
reference_length bytes = named_length 37 bytes

-- the name in the parameter entity reference that stands there; empty where none does
abbrev pub reference_name : List ℕ → List ℕ
reference_name bytes = take (reference_length bytes) (drop 1 bytes)

-- the name in a general entity reference `&name;` (4.1, EntityRef)
abbrev pub entity_length : List ℕ → ℕ
entity_length bytes = named_length 38 bytes

-- so many bytes, and then digits of a character reference and a semicolon: how many digits; 0 where it is none of a character (4.1,
-- CharRef)
unfoldable pub digits_length : (ℕ → Bool) → ℕ → ℕ → List ℕ → ℕ
digits_length class base opening bytes =
    let n = prefix_len class (drop opening bytes)
    in if head_is (nat_eq 59) (drop (opening + n) bytes) && is_character (number_written base 0 (take n (drop opening bytes))) then n else 0

-- how many digits the character reference has that stands there; 0 where none does
abbrev pub hexadecimal_length : List ℕ → ℕ
hexadecimal_length bytes = digits_length is_ascii_hexdigit 16 3 bytes

-- how many digits a decimal character reference `&#..;` has; 0 where none of a character stands there
abbrev pub decimal_length : List ℕ → ℕ
decimal_length bytes = digits_length is_ascii_digit 10 2 bytes

-- how long the character reference is that stands there; 0 where none does
unfoldable pub character_length : List ℕ → ℕ
character_length bytes =
    if begins (codes "&#x") bytes then (if nat_lt 0 (hexadecimal_length bytes) then 4 + hexadecimal_length bytes else 0)
    else if begins (codes "&#") bytes then (if nat_lt 0 (decimal_length bytes) then 3 + decimal_length bytes else 0) else 0

-- the character that it stands for
unfoldable pub character_number : List ℕ → ℕ
character_number bytes =
    if begins (codes "&#x") bytes then number_written 16 0 (take (hexadecimal_length bytes) (drop 3 bytes))
    else number_written 10 0 (take (decimal_length bytes) (drop 2 bytes))

-- no `<` stands in the text, and each `&` in it begins what the test asks for
unfoldable pub has_references : (List ℕ → Bool) → List ℕ → Bool
has_references test [] = true
has_references test (b ∷ bytes) = (if b == 60 then false else if b == 38 then test (b ∷ bytes) else true) && has_references test bytes

-- the value of a general entity, when its character references are expanded, is characters and references to them alone
abbrev pub is_plain_value : List ℕ → Bool
is_plain_value value = has_references (λ bytes. nat_lt 0 (character_length bytes)) value

-- the value of an attribute (2.3, AttValue)
abbrev pub is_attribute_value : List ℕ → Bool
is_attribute_value value = has_references (λ bytes. nat_lt 0 (character_length bytes) || nat_lt 0 (entity_length bytes)) value
