-- A test of what is open in a page: whether some text behind it ends a piece.
use Rattle.std.specs.Prelude.{ℕ, Bool, true, false, not, ◌&&◌, ◌||◌, if◌then◌else◌, List, [], ◌∷◌, ◌++◌, map, length, drop, Option, Some, None, bytes_eq, nat_le, nat_lt, codes}
use Rattle.std.specs.List.{list_all, list_any}
use Rattle.std.specs.Str.{chars, encode_utf8_all, str_to_ascii_lowercase}
use Rattle.dtd_model.specs.References.{known_entities, is_some}
use Rattle.dtd_model.specs.Table.{Kind, one_of, Presence, fixed, Declared, Rule, Table}
use Rattle.page_model.specs.Attributes.{find_rule, is_some_rule, must_stand}
use Rattle.page_model.specs.Parts.{is_quote, may_be_quoted}
use Rattle.character_steps.specs.Encoded.{Held, is_some_byte}
use Rattle.page_model.specs.Fronts.{Open, nothing, in_reference, in_tag_name, in_tag, at_empty_end, in_end_tag, in_comment, in_section, in_instruction, in_declaration, in_doctype, find_declared}
use Rattle.page_model.specs.OpenDoctypes.{OpenDoctype, in_public, in_system}
use Rattle.page_model.specs.OpenTags.{OpenAttribute, between, in_attribute_name, behind_name, behind_equals, in_value}
use Rattle.page_model.specs.OpenValues.{OpenReference, in_entity, at_number, in_decimal, in_hexadecimal, OpenValue, in_text, in_reference as in_value_reference, in_fixed, in_choice, in_words}
use Rattle.page_steps.specs.DoctypeSteps.{begins}
use Rattle.page_steps.specs.PageSteps.{PageState}
use Rattle.page_steps.specs.TagSteps.{is_among, are_all, may_be_word}
use Rattle.page_steps.specs.ValueSteps.{value_start, value_good, is_chosen}

-- one of the names begins so; where nothing is read of it, there is one at all
abbrev pub some_name_begins : List (List ℕ) → List ℕ → Bool
some_name_begins names front = list_any (λ name. begins name front) names

-- behind `&`: some entity begins so; a number is not over those of characters, each of which more digits may make one
abbrev pub reference_can_end : List (List ℕ) → OpenReference → Bool
reference_can_end entities (in_entity name) = some_name_begins (known_entities ++ entities) name
reference_can_end entities at_number = true
reference_can_end entities (in_decimal n) = nat_le n 0x10FFFF
reference_can_end entities (in_hexadecimal None) = true
reference_can_end entities (in_hexadecimal (Some n)) = nat_le n 0x10FFFF

-- Values.

-- what may be chosen
abbrev pub choices : Kind → List (List ℕ)
choices (one_of tokens) = tokens
choices kind = []

-- the bytes of a fixed value behind the characters that are read
abbrev pub bytes_behind : List ℕ → List ℕ → List ℕ
bytes_behind wanted value = drop (length (encode_utf8_all value)) wanted

-- their characters
abbrev pub fixed_rest : List ℕ → List ℕ → List ℕ
fixed_rest wanted value = chars (bytes_behind wanted value)

-- these characters may stand in such quotes, and with them the value is good
abbrev pub ends_by : List (List ℕ) → Declared → ℕ → List ℕ → List ℕ → Bool
ends_by entities d quote value rest = list_all (may_be_quoted quote) rest && value_good entities d (in_fixed (value ++ rest))

-- the rest of the fixed value can be written in such quotes
abbrev pub fixed_can_end : List (List ℕ) → Declared → ℕ → List ℕ → Presence → Bool
fixed_can_end entities d quote value (fixed wanted) = ends_by entities d quote value (fixed_rest wanted value)
fixed_can_end entities d quote value presence = true

-- a choice that is whole where white space stands behind it, and else the beginning of one
abbrev pub choice_can_end : Kind → List ℕ → Bool → Bool
choice_can_end kind word true = is_some word && is_chosen kind word
choice_can_end kind word false = some_name_begins (choices kind) word

-- a value with its quote, as it is declared
abbrev pub value_can_end : List (List ℕ) → Declared → ℕ → OpenValue → Bool
value_can_end entities d quote in_text = true
value_can_end entities d quote (in_value_reference r) = reference_can_end entities r
value_can_end entities d quote (in_fixed value) = fixed_can_end entities d quote value d.presence
value_can_end entities d quote (in_choice word spaced) = choice_can_end d.kind word spaced
value_can_end entities d quote (in_words inside one) = true

-- some value can be written, in one of the two quotes
abbrev pub has_value : List (List ℕ) → Declared → Bool
has_value entities d = value_can_end entities d 34 (value_start d) || value_can_end entities d 39 (value_start d)

-- Tags.

-- the attribute is declared, and its declaration passes
abbrev pub declared_so : (Declared → Bool) → Option Declared → Bool
declared_so test None = false
declared_so test (Some d) = test d

-- the attribute of this name is declared, and some value of it can be written
abbrev pub can_be_written : List (List ℕ) → List Declared → List ℕ → Bool
can_be_written entities rules name = declared_so (has_value entities) (find_declared rules name)

-- each attribute that has to stand in the tag is among these, or can be written
abbrev pub may_be_all : List (List ℕ) → List ℕ → List Declared → List (List ℕ) → Bool
may_be_all entities tag_name rules names =
    list_all (λ (d : Declared). if must_stand tag_name d then is_among names d.name || can_be_written entities rules d.name else true) rules

-- one more attribute can be written, and then all that have to stand
abbrev pub may_be_one : List (List ℕ) → List ℕ → List Declared → List (List ℕ) → List ℕ → Bool
may_be_one entities tag_name rules names name = can_be_written entities rules name && may_be_all entities tag_name rules (name ∷ names)

-- the declared attribute begins so, does not stand yet, and can be one more
abbrev pub may_be_next : List (List ℕ) → List ℕ → List Declared → List (List ℕ) → List ℕ → Declared → Bool
may_be_next entities tag_name rules names front d =
    begins d.name front && (not (is_among names d.name) && may_be_one entities tag_name rules names d.name)

-- what is open of an attribute in a tag of this name, where these names stand before it
abbrev pub attribute_can_end : List (List ℕ) → List ℕ → List Declared → List (List ℕ) → OpenAttribute → Bool
attribute_can_end entities tag_name rules names (between spaced) = may_be_all entities tag_name rules names
attribute_can_end entities tag_name rules names (in_attribute_name front) =
    list_any (may_be_next entities tag_name rules names front) rules
attribute_can_end entities tag_name rules names (behind_name name) = may_be_one entities tag_name rules names name
attribute_can_end entities tag_name rules names (behind_equals name) = may_be_one entities tag_name rules names name
attribute_can_end entities tag_name rules names (in_value name quote v) =
    declared_so (λ d. value_can_end entities d quote v) (find_declared rules name) && may_be_all entities tag_name rules (name ∷ names)

-- in a tag of an element that is declared so, if it is
abbrev pub tag_can_end : List (List ℕ) → List ℕ → List (List ℕ) → OpenAttribute → Option Rule → Bool
tag_can_end entities name names o None = false
tag_can_end entities name names o (Some rule) = attribute_can_end entities name rule.attributes names o

-- behind the `/` of an empty tag no attribute can come
abbrev pub empty_can_end : List ℕ → List (List ℕ) → Option Rule → Bool
empty_can_end name names None = false
empty_can_end name names (Some rule) = are_all name rule.attributes names

-- an element whose name begins so, and whose required attributes can be written
abbrev pub element_can_begin : List (List ℕ) → List ℕ → Rule → Bool
element_can_begin entities front rule = begins rule.name front && may_be_all entities rule.name rule.attributes []

-- the names of elements in the order of their declaration
abbrev pub names_of_elements : Table → List (List ℕ)
names_of_elements table = map (λ (r : Rule). r.name) table.elements

-- an end tag: a whole name where white space stands behind it, and else the beginning of one
abbrev pub end_tag_can_end : Table → List ℕ → Bool → Bool
end_tag_can_end table name true = is_some_rule (find_rule table.elements name)
end_tag_can_end table name false = some_name_begins (names_of_elements table) name

-- The XML declaration.

-- its words
abbrev pub declaration_words : List (List ℕ)
declaration_words = codes "version" ∷ codes "encoding" ∷ codes "standalone" ∷ []

-- a value of such a word begins so
abbrev pub word_begins : List ℕ → List ℕ → Bool
word_begins name value =
    if bytes_eq name (codes "version") then begins (codes "1.0") value
    else (if bytes_eq name (codes "encoding") then begins (codes "utf-8") (str_to_ascii_lowercase value) else begins (codes "yes") value
    || begins (codes "no") value)

-- a value of such a word, which is kept as it is written
abbrev pub word_can_end : List ℕ → OpenValue → Bool
word_can_end name (in_fixed value) = word_begins name value
word_can_end name v = false

-- a word that begins so and is in its turn; a value that begins so
abbrev pub declared_word_can_end : List (List ℕ) → OpenAttribute → Bool
declared_word_can_end names (between spaced) = true
declared_word_can_end names (in_attribute_name front) = list_any (λ word. begins word front && may_be_word names word) declaration_words
declared_word_can_end names (behind_name name) = true
declared_word_can_end names (behind_equals name) = true
declared_word_can_end names (in_value name quote v) = word_can_end name v

-- All that may be open.

-- so much of the public literal that a definition names
abbrev pub public_can_end : Option (List ℕ) → Bool
public_can_end None = true
public_can_end (Some text) = begins (codes "-//W3C//DTD XHTML 1.0 Strict//EN") text

-- in a document type declaration the public literal alone may be one of which nothing comes
abbrev pub doctype_can_end : OpenDoctype → Bool
doctype_can_end (in_public quote o) = public_can_end o
doctype_can_end o = true

-- whether some text behind it ends a piece
abbrev pub open_can_end : Table → Open → Bool
open_can_end table (in_reference r) = reference_can_end table.entities r
open_can_end table (in_tag_name front) = list_any (element_can_begin table.entities front) table.elements
open_can_end table (in_tag name names o) = tag_can_end table.entities name names o (find_rule table.elements name)
open_can_end table (at_empty_end name names) = empty_can_end name names (find_rule table.elements name)
open_can_end table (in_end_tag name spaced) = end_tag_can_end table name spaced
open_can_end table (in_declaration names o) = declared_word_can_end names o
open_can_end table (in_doctype o) = doctype_can_end o
open_can_end table o = true

-- A character of several bytes, of which some stand at the end.

-- whether a character of several bytes may stand in the value: in CDATA outside references and in a fixed value
abbrev pub value_takes : OpenValue → Bool
value_takes in_text = true
value_takes (in_fixed value) = true
value_takes v = false

-- each quote that is read is one of the two; another would end the value itself
abbrev pub attribute_takes : OpenAttribute → Bool
attribute_takes (in_value name quote v) = not (is_quote quote) || value_takes v
attribute_takes o = false

-- whether a character of several bytes may stand in a document type declaration: in a system literal
abbrev pub doctype_takes : OpenDoctype → Bool
doctype_takes (in_public quote o) = not (is_quote quote)
doctype_takes (in_system quote) = true
doctype_takes o = false

-- whether a character of several bytes may stand in what is open
abbrev pub takes_several : Open → Bool
takes_several nothing = true
takes_several (in_tag name names o) = attribute_takes o
takes_several (in_comment dashes) = nat_lt dashes 2
takes_several (in_section brackets) = true
takes_several (in_instruction asked) = true
takes_several (in_declaration names o) = attribute_takes o
takes_several (in_doctype o) = doctype_takes o
takes_several o = false

-- a fixed value goes on with these bytes behind what is read
abbrev pub fixed_goes_on : Presence → List ℕ → List ℕ → Bool
fixed_goes_on (fixed wanted) value begun = begins (bytes_behind wanted value) begun
fixed_goes_on presence value begun = true

-- a value that is compared goes on with these bytes
abbrev pub value_goes_on : Option Declared → OpenValue → List ℕ → Bool
value_goes_on (Some d) (in_fixed value) begun = fixed_goes_on d.presence value begun
value_goes_on o v begun = true

-- among attributes a value alone may be one that does not
abbrev pub attribute_goes_on : List Declared → OpenAttribute → List ℕ → Bool
attribute_goes_on rules (in_value name quote v) begun = not (is_quote quote) || value_goes_on (find_declared rules name) v begun
attribute_goes_on rules o begun = true

-- by the declaration of the element, if it has one
abbrev pub tag_goes_on : Option Rule → OpenAttribute → List ℕ → Bool
tag_goes_on None o begun = true
tag_goes_on (Some rule) o begun = attribute_goes_on rule.attributes o begun

-- no word of an XML declaration has a character of several bytes
abbrev pub declared_word_goes_on : OpenAttribute → Bool
declared_word_goes_on (in_value name quote v) = not (is_quote quote)
declared_word_goes_on o = true

-- what is open goes on with these first bytes of a character: a value that is compared, where it has them
abbrev pub goes_on_with : Table → Open → List ℕ → Bool
goes_on_with table (in_tag name names o) begun = tag_goes_on (find_rule table.elements name) o begun
goes_on_with table (in_declaration names o) begun = declared_word_goes_on o
goes_on_with table o begun = true

-- some text behind what is open, and behind the first bytes of a character where there are some, ends a piece
abbrev pub can_end : Table → Held PageState → Bool
can_end table h = open_can_end table h.state.inside
    && (if is_some_byte h.begun then takes_several h.state.inside && goes_on_with table h.state.inside h.begun else true)
