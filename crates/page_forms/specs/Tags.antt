-- Start tags and tags of empty elements as expressions, by what is declared (XML 1.0, 3.1 and 3.3).
use Rattle.std.specs.Prelude.{ℕ, Bool, true, false, not, ◌==◌, ◌&&◌, ◌||◌, List, [], ◌∷◌, bytes_eq, codes, Option, Some, None}
use Rattle.std.specs.List.{list_all}
use Rattle.std.specs.Str.{chars, encode_utf8_all}
use Rattle.xml_text.specs.Names.{in_name, is_name, is_name_token}
use Rattle.dtd_model.specs.References.{is_reference, is_known}
use Rattle.dtd_model.specs.Table.{Kind, cdata, id, idref, idrefs, nmtoken, nmtokens, one_of, Presence, implied, required, with_default, fixed, Declared, Rule}
use Rattle.derivatives.specs.Expressions.{Expr, nothing, star, Members, none, member}
use Rattle.derivatives.specs.Derivatives.{chain_of, either_of, among_of, when}
use Rattle.page_model.specs.Attributes.{has_kind, must_stand}
use Rattle.page_model.specs.Parts.{may_be_quoted, refers_by}
use Rattle.page_forms.specs.Quotes.{attribute_of}
use Rattle.page_forms.specs.References.{reference_form}
use Rattle.page_forms.specs.Words.{word, one_of_words, ascii, character_of, blanks, gap, name_form}

-- one word, maybe with white space round it
abbrev pub one_word : Expr → Expr
one_word e = chain_of blanks (chain_of e blanks)

-- one word or more with white space between them, maybe with white space round them
abbrev pub some_words : Expr → Expr
some_words e = chain_of blanks (chain_of e (chain_of (star (chain_of gap e)) blanks))

-- a name token (XML 1.0, 2.3)
abbrev pub token_form : Expr
token_form = chain_of (ascii in_name) (star (ascii in_name))

-- a character of a value in these quotes that stands for itself (XML 1.0, 2.3, AttValue)
abbrev pub value_character : ℕ → Expr
value_character q = character_of (λ c. not (c == 60 || c == 38 || c == q))

-- a value of a type in these quotes (XML 1.0, 3.3.1)
abbrev pub kind_form : List (List ℕ) → Kind → ℕ → Expr
kind_form entities cdata q = star (either_of (value_character q) (reference_form entities))
kind_form entities id q = one_word name_form
kind_form entities idref q = one_word name_form
kind_form entities idrefs q = some_words name_form
kind_form entities nmtoken q = one_word token_form
kind_form entities nmtokens q = some_words token_form
kind_form entities (one_of tokens) q = one_word (one_of_words is_name_token tokens)

-- the characters may stand in these quotes, and refer to what is known alone
abbrev pub is_value : List (List ℕ) → ℕ → List ℕ → Bool
is_value entities q cs = list_all (may_be_quoted q) cs && refers_by is_reference cs && refers_by (is_known entities) cs

-- the bytes are those of a value of the type in these quotes
abbrev pub is_fixed_value : List (List ℕ) → Kind → ℕ → List ℕ → Bool
is_fixed_value entities kind q bytes =
    bytes_eq (encode_utf8_all (chars bytes)) bytes && (is_value entities q (chars bytes) && has_kind kind (chars bytes))

-- a value of an attribute in these quotes, as it is declared (XML 1.0, 3.3.2)
abbrev pub presence_form : List (List ℕ) → Kind → Presence → ℕ → Expr
presence_form entities kind implied q = kind_form entities kind q
presence_form entities kind required q = kind_form entities kind q
presence_form entities kind with_default q = kind_form entities kind q
presence_form entities kind (fixed wanted) q = when (is_fixed_value entities kind q wanted) (word wanted)

-- a value of a declared attribute in these quotes
unfoldable pub value_form : List (List ℕ) → Declared → ℕ → Expr
value_form entities d q = presence_form entities d.kind d.presence q

-- an attribute, as it is declared
unfoldable pub attribute_form : List (List ℕ) → Declared → Expr
attribute_form entities d = when (is_name d.name) (attribute_of d.name (value_form entities d))

-- members and one more, which is left out where it is nothing and does not have to stand; none, where it is nothing and has to
abbrev pub with_member : Expr → Bool → Option Members → Option Members
with_member nothing true ms = None
with_member nothing false ms = ms
with_member e must None = None
with_member e must (Some ms) = Some (member e must ms)

-- the declared attributes, each with whether it has to stand in the tag of this name
abbrev pub attribute_members : List (List ℕ) → List ℕ → List Declared → Option Members
attribute_members entities tag_name [] = Some none
attribute_members entities tag_name (d ∷ ds) = with_member (attribute_form entities d) (must_stand tag_name d) (attribute_members entities tag_name ds)

-- some of the members, in any order
abbrev pub any_order : Option Members → Expr
any_order None = nothing
any_order (Some ms) = among_of ms

-- `<`, the name, the attributes in any order, maybe white space, and `>` or `/>`
abbrev pub tag_form : List ℕ → List (List ℕ) → Rule → Expr
tag_form closer entities rule =
    chain_of (word (codes "<"))
    (chain_of (word rule.name) (chain_of (any_order (attribute_members entities rule.name rule.attributes)) (chain_of blanks (word closer))))

-- a start tag by its declarations (XML 1.0, 3.1)
unfoldable pub start_tag_form : List (List ℕ) → Rule → Expr
start_tag_form entities rule = tag_form (codes ">") entities rule

-- a tag of an empty element by its declarations (XML 1.0, 3.1)
unfoldable pub empty_tag_form : List (List ℕ) → Rule → Expr
empty_tag_form entities rule = tag_form (codes "/>") entities rule
