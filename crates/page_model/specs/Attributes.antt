-- What a document type definition asks of one piece: which attributes a tag may and must have (XML 1.0, 3.3), which
-- entities are declared (4.1), and which document type a page names (XHTML 1.0, 3.1.1).
use Rattle.std.specs.Prelude.{ℕ, Bool, true, false, not, ◌&&◌, ◌||◌, if◌then◌else◌, List, [], ◌∷◌, codes, bytes_eq, Option, Some, None}
use Rattle.std.specs.List.{list_all, list_any}
use Rattle.std.specs.Str.{encode_utf8_all}
use Rattle.xml_text.specs.Characters.{is_blank}
use Rattle.xml_text.specs.Names.{is_name, is_name_token}
use Rattle.dtd_model.specs.declared.dtd.DoctypeRule.{DoctypeRule}
use Rattle.dtd_model.specs.declared.dtd.DoctypeRule.TheVariants.{Strict, Free}
use Rattle.dtd_model.specs.Table.{Kind, cdata, id, idref, idrefs, nmtoken, nmtokens, one_of, Presence, implied, required, with_default, fixed, Declared, Rule, Table}
use Rattle.dtd_model.specs.References.{is_known}
use Rattle.page_model.specs.Parts.{Attribute, Tag, Leaf, character, reference, section, comment, instruction, begins_blank, refers_by}
use Rattle.page_model.specs.Prolog.{Doctype, is_strict}
use Rattle.page_model.specs.Pieces.{Piece, mark, declaration, doctype, start_tag, empty_tag, end_tag, leaf}

-- a character before words: a word of its own, or put to the first of them
abbrev pub put_before : ℕ → Bool → List (List ℕ) → List (List ℕ)
put_before c true words = (c ∷ []) ∷ words
put_before c false [] = (c ∷ []) ∷ []
put_before c false (word ∷ words) = (c ∷ word) ∷ words

-- the words of a value, with white space between them and maybe round them
abbrev pub words_of : List ℕ → List (List ℕ)
words_of [] = []
words_of (c ∷ cs) = if is_blank c then words_of cs else put_before c (begins_blank cs) (words_of cs)

-- there is exactly one word, and it passes the test
abbrev pub is_one_word : (List ℕ → Bool) → List (List ℕ) → Bool
is_one_word test [] = false
is_one_word test (word ∷ []) = test word
is_one_word test (word ∷ second ∷ words) = false

-- there is at least one word, and each passes the test
abbrev pub are_words : (List ℕ → Bool) → List (List ℕ) → Bool
are_words test [] = false
are_words test (word ∷ words) = list_all test (word ∷ words)

-- A value of this type (XML 1.0, 3.3.1). Since names and name tokens have no `&`, only CDATA holds references
-- (own), where a choice is one of name tokens, as each lawful definition has it.
abbrev pub has_kind : Kind → List ℕ → Bool
has_kind cdata value = true
has_kind id value = is_one_word is_name (words_of value)
has_kind idref value = is_one_word is_name (words_of value)
has_kind idrefs value = are_words is_name (words_of value)
has_kind nmtoken value = is_one_word is_name_token (words_of value)
has_kind nmtokens value = are_words is_name_token (words_of value)
has_kind (one_of tokens) value = is_one_word (λ word. list_any (bytes_eq word) tokens) (words_of value)

-- a fixed value is the declared one (XML 1.0, 3.3.2), byte for byte and not normalised (own)
abbrev pub has_fixed : Presence → List ℕ → Bool
has_fixed implied value = true
has_fixed required value = true
has_fixed with_default value = true
has_fixed (fixed wanted) value = bytes_eq wanted (encode_utf8_all value)

-- the attribute is declared, and its value is allowed
abbrev pub is_declared : List Declared → Attribute → Bool
is_declared [] a = false
is_declared (d ∷ ds) a = if bytes_eq d.name a.name then has_kind d.kind a.value && has_fixed d.presence a.value else is_declared ds a

-- an attribute of this name stands in the tag
abbrev pub stands : List Attribute → List ℕ → Bool
stands [] name = false
stands (a ∷ more) name = bytes_eq a.name name || stands more name

-- no name stands twice (XML 1.0, 3.1)
abbrev pub is_once : List Attribute → Bool
is_once [] = true
is_once (a ∷ more) = not (stands more a.name) && is_once more

-- whether the default is `#REQUIRED` (XML 1.0, 3.3.2)
abbrev pub is_required : Presence → Bool
is_required implied = false
is_required required = true
is_required with_default = false
is_required (fixed wanted) = false

-- the attribute has to stand: it is required, or it is the `xmlns` of `html` (XHTML 1.0, 3.1.1)
abbrev pub must_stand : List ℕ → Declared → Bool
must_stand tag_name d = is_required d.presence || bytes_eq tag_name (codes "html") && bytes_eq d.name (codes "xmlns")

-- each of the declared attributes that has to stand in a tag of this name is among the attributes
abbrev pub all_there : List ℕ → List Declared → List Attribute → Bool
all_there tag_name rules attributes = list_all (λ (d : Declared). if must_stand tag_name d then stands attributes d.name else true) rules

-- the attributes of a tag are those that the element may and must have, and refer to declared entities alone
abbrev pub attributes_fit : List (List ℕ) → List ℕ → List Declared → List Attribute → Bool
attributes_fit entities tag_name rules attributes =
    list_all (λ (a : Attribute). refers_by (is_known entities) a.value) attributes && list_all (is_declared rules) attributes
    && is_once attributes && all_there tag_name rules attributes

-- the declaration of an element
abbrev pub find_rule : List Rule → List ℕ → Option Rule
find_rule [] name = None
find_rule (r ∷ rs) name = if bytes_eq r.name name then Some r else find_rule rs name

-- whether a declaration was found
abbrev pub is_some_rule : Option Rule → Bool
is_some_rule None = false
is_some_rule (Some rule) = true

-- the element is declared, and the attributes are as declared
abbrev pub fits_rule : List (List ℕ) → Option Rule → Tag → Bool
fits_rule entities None tag = false
fits_rule entities (Some rule) tag = attributes_fit entities tag.name rule.attributes tag.attributes

-- the element of the tag is declared, and its attributes are as declared
abbrev pub tag_fits : Table → Tag → Bool
tag_fits table tag = fits_rule table.entities (find_rule table.elements tag.name) tag

-- a reference names a declared entity, if it names one
abbrev pub leaf_fits : Table → Leaf → Bool
leaf_fits table (character c) = true
leaf_fits table (reference r) = is_known table.entities r
leaf_fits table (section text) = true
leaf_fits table (comment text) = true
leaf_fits table (instruction target text) = true

-- the document type is the one that the definition asks for
abbrev pub doctype_fits : DoctypeRule → Doctype → Bool
doctype_fits Strict d = is_strict d.identifier
doctype_fits Free d = true

-- the piece is as the definition asks
abbrev pub is_allowed : Table → Piece → Bool
is_allowed table mark = true
is_allowed table (declaration d) = true
is_allowed table (doctype d) = doctype_fits table.doctype d
is_allowed table (start_tag tag) = tag_fits table tag
is_allowed table (empty_tag tag) = tag_fits table tag
is_allowed table (end_tag name space) = is_some_rule (find_rule table.elements name)
is_allowed table (leaf l) = leaf_fits table l
