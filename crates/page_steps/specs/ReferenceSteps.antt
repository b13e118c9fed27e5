-- One character more in a reference, behind its `&` and before its `;` (XML 1.0, 4.1).
use Rattle.std.specs.Prelude.{ℕ, ◌+◌, ◌*◌, Bool, false, ◌==◌, ◌&&◌, if◌then◌else◌, List, [], ◌∷◌, ◌++◌, Option, Some, None}
use Rattle.std.specs.Char.{is_ascii_digit, is_ascii_hexdigit, digit_value}
use Rattle.xml_text.specs.Characters.{is_character}
use Rattle.xml_text.specs.Names.{begins_name, in_name, is_name}
use Rattle.dtd_model.specs.References.{entity, is_known}
use Rattle.page_model.specs.OpenValues.{OpenReference, in_entity, at_number, in_decimal, in_hexadecimal, capped}

-- behind `&` or a name: `#`, or one character more of the name of an entity
abbrev pub entity_step : List ℕ → ℕ → Option OpenReference
entity_step [] c = if c == 35 then Some at_number else (if begins_name c then Some (in_entity (c ∷ [])) else None)
entity_step (n ∷ name) c = if in_name c then Some (in_entity ((n ∷ name) ++ c ∷ [])) else None

-- one decimal digit more of a character's number, which is kept up to a bound beyond all characters
abbrev pub decimal_step : ℕ → ℕ → Option OpenReference
decimal_step n c = if is_ascii_digit c then Some (in_decimal (capped (n * 10 + digit_value c))) else None

-- one hexadecimal digit more, of either case, of a character's number, which is kept up to the same bound
abbrev pub hexadecimal_step : ℕ → ℕ → Option OpenReference
hexadecimal_step n c = if is_ascii_hexdigit c then Some (in_hexadecimal (Some (capped (n * 16 + digit_value c)))) else None

-- one character more of a reference: a name, `#` and decimal digits, or `#x` and hexadecimal ones
abbrev pub reference_step : OpenReference → ℕ → Option OpenReference
reference_step (in_entity name) c = entity_step name c
reference_step at_number c = if c == 120 then Some (in_hexadecimal None) else decimal_step 0 c
reference_step (in_decimal n) c = decimal_step n c
reference_step (in_hexadecimal None) c = hexadecimal_step 0 c
reference_step (in_hexadecimal (Some n)) c = hexadecimal_step n c

-- the reference may end there
abbrev pub reference_good : List (List ℕ) → OpenReference → Bool
reference_good entities (in_entity name) = is_name name && is_known entities (entity name)
reference_good entities at_number = false
reference_good entities (in_decimal n) = is_character n
reference_good entities (in_hexadecimal None) = false
reference_good entities (in_hexadecimal (Some n)) = is_character n
