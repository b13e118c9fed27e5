-- References (XML 1.0, 4.1 and 4.6).
use Rattle.std.specs.Prelude.{ℕ, ◌+◌, ◌*◌, Bool, true, false, ◌&&◌, ◌||◌, List, [], ◌∷◌, ◌++◌, codes, bytes_eq}
use Rattle.std.specs.List.{list_all, list_any}
use Rattle.std.specs.Char.{is_ascii_digit, is_ascii_hexdigit, digit_value}
use Rattle.xml_text.specs.Characters.{is_character}
use Rattle.xml_text.specs.Names.{is_name}

-- a reference to a character by the digits of its number, or to an entity by its name (XML 1.0, 4.1)
pub data Reference : Type 0 where
  -- `&#`, decimal digits, `;`
  decimal : List ℕ → Reference
  -- `&#x`, hexadecimal digits, `;`
  hexadecimal : List ℕ → Reference
  -- `&`, a name, `;`
  entity : List ℕ → Reference

-- its bytes, and then others
abbrev pub reference_then : Reference → List ℕ → List ℕ
reference_then (decimal digits) rest = 38 ∷ 35 ∷ (digits ++ 59 ∷ rest)
reference_then (hexadecimal digits) rest = 38 ∷ 35 ∷ 120 ∷ (digits ++ 59 ∷ rest)
reference_then (entity name) rest = 38 ∷ (name ++ 59 ∷ rest)

-- whether there is a character at all
abbrev pub is_some : List ℕ → Bool
is_some [] = false
is_some (c ∷ cs) = true

-- the number that digits write behind a number
abbrev pub number_written : ℕ → ℕ → List ℕ → ℕ
number_written base n [] = n
number_written base n (d ∷ ds) = number_written base (n * base + digit_value d) ds

-- a number is that of a character
abbrev pub is_reference : Reference → Bool
is_reference (decimal digits) = is_some digits && list_all is_ascii_digit digits && is_character (number_written 10 0 digits)
is_reference (hexadecimal digits) = is_some digits && list_all is_ascii_hexdigit digits && is_character (number_written 16 0 digits)
is_reference (entity name) = is_name name

-- the entities that need no declaration
abbrev pub known_entities : List (List ℕ)
known_entities = codes "amp" ∷ codes "lt" ∷ codes "gt" ∷ codes "quot" ∷ codes "apos" ∷ []

-- the entity is one of these, or declared
abbrev pub is_known : List (List ℕ) → Reference → Bool
is_known entities (decimal digits) = true
is_known entities (hexadecimal digits) = true
is_known entities (entity name) = list_any (bytes_eq name) known_entities || list_any (bytes_eq name) entities
