-- What is asked of a piece that was read, beyond its form.
use Rattle.std.specs.Prelude.{ℕ, Bool, true, not, ◌==◌, ◌&&◌, codes}
use Rattle.std.specs.List.{list_all}
use Rattle.std.specs.Str.{str_eq_ignore_ascii_case}
use Rattle.xml_text.specs.Characters.{is_character}
use Rattle.xml_text.specs.Names.{in_public_identifier}
use Rattle.dtd_model.specs.References.{is_reference, is_some}
use Rattle.page_model.specs.Parts.{Attribute, Leaf, character, reference, section, comment, instruction, may_be_quoted, refers_by, begins_blank}
use Rattle.page_model.specs.Prolog.{Literal, Identifier, no_identifier, system, public, is_in_order}
use Rattle.page_model.specs.Pieces.{Piece, mark, declaration, doctype, start_tag, empty_tag, end_tag, leaf, may_follow}
use Rattle.page_model.specs.Places.{Place, is_early}

-- white space stands before the attribute, and its value has characters that may stand in these quotes and whole references
abbrev pub attribute_is_right : Attribute → Bool
attribute_is_right a = is_some a.space && list_all (may_be_quoted a.quote) a.value && refers_by is_reference a.value

-- each character of the literal passes and is not its quote
abbrev pub literal_is_right : (ℕ → Bool) → Literal → Bool
literal_is_right test l = list_all (λ c. test c && not (c == l.quote)) l.text

-- white space stands before the word and before each literal, and the literals have characters that may stand in them
abbrev pub identifier_is_right : Identifier → Bool
identifier_is_right no_identifier = true
identifier_is_right (system s t l) = is_some s && is_some t && literal_is_right is_character l
identifier_is_right (public s t l u m) =
    is_some s && is_some t && literal_is_right in_public_identifier l && is_some u && literal_is_right is_character m

-- what is asked of a character, a reference, a section, a comment and an instruction; no instruction's target is `xml` in any case
abbrev pub leaf_is_right : Leaf → Bool
leaf_is_right (character c) = is_character c
leaf_is_right (reference r) = is_reference r
leaf_is_right (section text) = list_all is_character text
leaf_is_right (comment text) = list_all is_character text
leaf_is_right (instruction target text) =
    not (str_eq_ignore_ascii_case target (codes "xml")) && begins_blank text && list_all is_character text

-- what is asked of a piece at this place, beyond its form; the XML declaration stands at the beginning, its words in order
abbrev pub is_right : Place → Piece → Bool
is_right place mark = true
is_right place (declaration d) = is_early place && list_all attribute_is_right d.attributes && is_in_order d.attributes
is_right place (doctype d) = is_some d.space && identifier_is_right d.identifier
is_right place (start_tag tag) = list_all attribute_is_right tag.attributes
is_right place (empty_tag tag) = list_all attribute_is_right tag.attributes
is_right place (end_tag name space) = true
is_right place (leaf l) = may_follow place l && leaf_is_right l
