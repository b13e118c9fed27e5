-- Open references by number: the least number of its kind stands for each.
use Rattle.std.specs.Prelude.{Some, None}
use Rattle.number_kinds.specs.Kinds.{decimal_kind, hexadecimal_kind}
use Rattle.page_model.specs.Fronts.{Open, nothing, in_reference, in_opener, in_tag_name, in_tag, at_empty_end, in_end_tag, in_comment, in_section, in_target, behind_target, in_instruction, in_declaration, at_declaration_end, in_doctype}
use Rattle.page_model.specs.OpenTags.{OpenAttribute, between, in_attribute_name, behind_name, behind_equals, in_value}
use Rattle.page_model.specs.OpenValues.{OpenReference, in_entity, at_number, in_decimal, in_hexadecimal, OpenValue, in_text, in_reference as in_value_reference, in_fixed, in_choice, in_words}
use Rattle.page_steps.specs.PageSteps.{PageState}

-- behind `&`
abbrev pub merged_reference : OpenReference → OpenReference
merged_reference (in_entity name) = in_entity name
merged_reference at_number = at_number
merged_reference (in_decimal n) = in_decimal (decimal_kind n)
merged_reference (in_hexadecimal None) = in_hexadecimal None
merged_reference (in_hexadecimal (Some n)) = in_hexadecimal (Some (hexadecimal_kind n))

-- in the quotes of a value
abbrev pub merged_value : OpenValue → OpenValue
merged_value in_text = in_text
merged_value (in_value_reference r) = in_value_reference (merged_reference r)
merged_value (in_fixed value) = in_fixed value
merged_value (in_choice word spaced) = in_choice word spaced
merged_value (in_words inside one) = in_words inside one

-- among attributes
abbrev pub merged_attribute : OpenAttribute → OpenAttribute
merged_attribute (between spaced) = between spaced
merged_attribute (in_attribute_name name) = in_attribute_name name
merged_attribute (behind_name name) = behind_name name
merged_attribute (behind_equals name) = behind_equals name
merged_attribute (in_value name quote v) = in_value name quote (merged_value v)

-- what is open; in an XML declaration no reference is
abbrev pub merged_open : Open → Open
merged_open nothing = nothing
merged_open (in_reference r) = in_reference (merged_reference r)
merged_open (in_opener begun) = in_opener begun
merged_open (in_tag_name name) = in_tag_name name
merged_open (in_tag name names o) = in_tag name names (merged_attribute o)
merged_open (at_empty_end name names) = at_empty_end name names
merged_open (in_end_tag name spaced) = in_end_tag name spaced
merged_open (in_comment dashes) = in_comment dashes
merged_open (in_section brackets) = in_section brackets
merged_open (in_target o) = in_target o
merged_open behind_target = behind_target
merged_open (in_instruction asked) = in_instruction asked
merged_open (in_declaration names o) = in_declaration names o
merged_open at_declaration_end = at_declaration_end
merged_open (in_doctype o) = in_doctype o

-- a state of the reader by characters
abbrev pub merged_numbers : PageState → PageState
merged_numbers s = record { place = s.place; inside = merged_open s.inside }
