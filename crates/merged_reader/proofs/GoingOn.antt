-- Where all characters of several bytes lead on alike, what is open goes on with the first bytes of each.
use Rattle.std.proofs.Common.{◌≡◌, ℕ, Bool, true, false, not, ◌||◌, List, Option, Some, None, refl}
use Rattle.std.proofs.lemmas.Bool.{and_parts}
use Rattle.dtd_model.specs.Table.{Declared, Rule, Table}
use Rattle.page_model.specs.Attributes.{find_rule}
use Rattle.page_model.specs.Parts.{is_quote}
use Rattle.page_model.specs.Places.{Place}
use Rattle.page_model.specs.Fronts.{Open, nothing, in_reference, in_opener, in_tag_name, in_tag, at_empty_end, in_end_tag, in_comment, in_section, in_target, behind_target, in_instruction, in_declaration, at_declaration_end, in_doctype, find_declared}
use Rattle.page_model.specs.OpenTags.{OpenAttribute, between, in_attribute_name, behind_name, behind_equals, in_value}
use Rattle.page_model.specs.OpenValues.{OpenValue, in_text, in_reference as in_value_reference, in_fixed, in_choice, in_words}
use Rattle.page_endings.specs.Ending.{value_goes_on, tag_goes_on, goes_on_with}
use Rattle.merged_reader.specs.Merging.{value_alike, attribute_alike, open_alike}

text_goes_on : (d : Option Declared) (v : OpenValue) (bytes : List ℕ) → value_alike v ≡ true → value_goes_on d v bytes ≡ true
text_goes_on None v bytes e = refl
text_goes_on (Some d) in_text bytes e = refl
text_goes_on (Some d) (in_value_reference r) bytes e = refl
text_goes_on (Some d) (in_fixed value) bytes e = cc
text_goes_on (Some d) (in_choice word spaced) bytes e = refl
text_goes_on (Some d) (in_words inside one) bytes e = refl

tag_alike : (f : Option Rule) (o : OpenAttribute) (bytes : List ℕ) → attribute_alike o ≡ true → tag_goes_on f o bytes ≡ true
tag_alike None o bytes e = refl
tag_alike (Some rule) (between spaced) bytes e = refl
tag_alike (Some rule) (in_attribute_name name) bytes e = refl
tag_alike (Some rule) (behind_name name) bytes e = refl
tag_alike (Some rule) (behind_equals name) bytes e = refl
tag_alike (Some rule) (in_value name quote v) bytes e =
    by (is_quote quote) (text_goes_on (find_declared rule.attributes name) v bytes (and_parts (is_quote quote) (value_alike v) e).1)
  where
    by : (q : Bool) → value_goes_on (find_declared rule.attributes name) v bytes ≡ true → (not q || value_goes_on (find_declared rule.attributes name) v bytes) ≡ true
    by true h = h
    by false h = refl

pub alike_goes_on : (table : Table) (place : Place) (o : Open) (bytes : List ℕ) → open_alike place o ≡ true → goes_on_with table o bytes ≡ true
alike_goes_on table place nothing bytes e = refl
alike_goes_on table place (in_reference r) bytes e = refl
alike_goes_on table place (in_opener begun) bytes e = refl
alike_goes_on table place (in_tag_name name) bytes e = refl
alike_goes_on table place (in_tag name names o) bytes e = tag_alike (find_rule table.elements name) o bytes e
alike_goes_on table place (at_empty_end name names) bytes e = refl
alike_goes_on table place (in_end_tag name spaced) bytes e = refl
alike_goes_on table place (in_comment dashes) bytes e = refl
alike_goes_on table place (in_section brackets) bytes e = refl
alike_goes_on table place (in_target o) bytes e = refl
alike_goes_on table place behind_target bytes e = refl
alike_goes_on table place (in_instruction asked) bytes e = refl
alike_goes_on table place (in_declaration names o) bytes e = cc
alike_goes_on table place at_declaration_end bytes e = refl
alike_goes_on table place (in_doctype o) bytes e = refl
