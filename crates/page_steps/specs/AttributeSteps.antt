-- One character more among attributes, in a tag or in the XML declaration (XML 1.0, 3.1 and 2.8).
use Rattle.std.specs.Prelude.{ℕ, Bool, true, ◌==◌, if◌then◌else◌, List, [], ◌∷◌, ◌++◌, Option, Some, None}
use Rattle.xml_text.specs.Characters.{is_blank}
use Rattle.xml_text.specs.Names.{begins_name, in_name}
use Rattle.page_model.specs.Parts.{is_quote}
use Rattle.page_model.specs.OpenTags.{OpenAttribute, between, in_attribute_name, behind_name, behind_equals, in_value}
use Rattle.page_model.specs.OpenValues.{OpenValue}

-- which attributes may stand, by the names of those before, and which values
pub record Allowing : Type 0 where
  pub may : List (List ℕ) → List ℕ → Bool
  pub added : List (List ℕ) → List ℕ → List (List ℕ)
  pub start : List ℕ → OpenValue
  pub step : List ℕ → OpenValue → ℕ → Option OpenValue
  pub good : List ℕ → OpenValue → Bool

-- what one character more does among attributes
pub data AttributeMove : Type 0 where
  stays : OpenAttribute → AttributeMove
  -- an attribute ends, and these names stand
  ends_with : List (List ℕ) → AttributeMove
  -- the character is none of an attribute
  leaves : AttributeMove
  stops : AttributeMove

-- between attributes, where white space was read or was not: more of it, or a name, which wants it; else none of an attribute
abbrev pub between_move : Bool → ℕ → AttributeMove
between_move spaced c = if is_blank c then stays (between true) else (if begins_name c
    then (if spaced then stays (in_attribute_name (c ∷ [])) else stops) else leaves)

-- behind a name
abbrev pub equals_move : List ℕ → ℕ → AttributeMove
equals_move name c = if is_blank c then stays (behind_name name) else (if c == 61 then stays (behind_equals name) else stops)

-- in a name: one character more of it, or what stands behind it, where an attribute of this name may stand
abbrev pub name_move : Allowing → List (List ℕ) → List ℕ → ℕ → AttributeMove
name_move a names name c = if in_name c then stays (in_attribute_name (name ++ c ∷ []))
    else (if a.may names name then equals_move name c else stops)

-- behind `=`: white space, or the quote that opens the value
abbrev pub quote_move : Allowing → List ℕ → ℕ → AttributeMove
quote_move a name c = if is_blank c then stays (behind_equals name) else
    (if is_quote c then stays (in_value name c (a.start name)) else stops)

-- still in the value, where its character may stand
abbrev pub valued : List ℕ → ℕ → Option OpenValue → AttributeMove
valued name quote None = stops
valued name quote (Some v) = stays (in_value name quote v)

-- in a value: its quote, which ends the attribute where the value is good, or one character more
abbrev pub value_move : Allowing → List (List ℕ) → List ℕ → ℕ → OpenValue → ℕ → AttributeMove
value_move a names name quote v c =
    if c == quote then (if a.good name v then ends_with (a.added names name) else stops) else valued name quote (a.step name v c)

-- what a character does by what is open of an attribute, where these names stand already
abbrev pub attribute_move : Allowing → List (List ℕ) → OpenAttribute → ℕ → AttributeMove
attribute_move a names (between spaced) c = between_move spaced c
attribute_move a names (in_attribute_name name) c = name_move a names name c
attribute_move a names (behind_name name) c = equals_move name c
attribute_move a names (behind_equals name) c = quote_move a name c
attribute_move a names (in_value name quote v) c = value_move a names name quote v c
