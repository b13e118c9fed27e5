-- A page whose tokens are all good is cut into lawful pieces, and these are loose ones with the same bytes: a value by its bytes.
use Rattle.std.proofs.Common.{◌≡◌, ◌⊎◌, inl, inr, ℕ, ◌≤◌, ◌<◌, Bool, true, not, ◌||◌, List, [], ◌∷◌, ◌++◌, map, refl, sym, ◌∙◌, ap, subst, codes, arith}
use Rattle.std.specs.Prelude.{nat_eq, nat_le}
use Rattle.std.specs.Char.{encode_utf8}
use Rattle.std.specs.List.{list_all, list_any}
use Rattle.std.specs.Str.{encode_utf8_all}
use Rattle.std.proofs.lemmas.Bool.{and_parts, and_from, or_right, cases_lt}
use Rattle.std.proofs.lemmas.Bool.Decides.{nat_tests}
use Rattle.std.proofs.lemmas.List.Folds.{list_any-append, list_all-append}
use Rattle.std.proofs.lemmas.Str.{encodes-append, encode_ascii}
use Rattle.text_base.specs.declared.page_token.PageToken.TheVariants as token
use Rattle.xml_text.specs.Characters.{is_blank, is_character}
use Rattle.xml_text.specs.Names.{is_name, in_name, begins_name}
use Rattle.dtd_model.specs.References.{decimal, hexadecimal, entity}
use Rattle.dtd_model.specs.Table.{Table}
use Rattle.page_model.specs.Attributes.{is_some_rule, tag_fits}
use Rattle.page_model.specs.Broken.{IsLooseAttribute, AreLooseAttributes, IsLooseTag, IsLoose, AreLoose, loose_bytes, loose_then}
use Rattle.page_model.specs.PageTokens.{IsLawful, AreLawful, piece_bytes, bytes_then, piece_tokens, tokens_then, left_tokens}
use Rattle.page_model.specs.Parts.{Attribute, Tag, attribute_then, attributes_then, tag_then, IsAttribute, AreAttributes, IsTag, may_be_quoted, is_quote, character, reference, section, comment, instruction}
use Rattle.page_model.specs.Pieces.{Piece, mark, declaration, doctype, start_tag, empty_tag, end_tag, leaf, after}
use Rattle.page_model.specs.Places.{Place, at_beginning}
use Rattle.page_model.proofs.FromTrees.{tag_declared}
use Rattle.broken_forms.specs.Laws.{is_bad, BrokenHaveBad}
use Rattle.broken_forms.proofs.Characters.{ascii_then, word_then, low_blank, low_name, high_bytes}

-- The loose piece that stands for a lawful one.

-- an attribute with the bytes of its value
abbrev byte_attribute : Attribute → Attribute
byte_attribute a = record { space = a.space; name = a.name; before_equals = a.before_equals; after_equals = a.after_equals; quote = a.quote; value = encode_utf8_all a.value }

-- a tag with such attributes
abbrev byte_tag : Tag → Tag
byte_tag tag = record { name = tag.name; attributes = map byte_attribute tag.attributes; space = tag.space }

-- the loose piece with the bytes of a lawful one
abbrev loosened : Piece → Piece
loosened (start_tag tag) = start_tag (byte_tag tag)
loosened (empty_tag tag) = empty_tag (byte_tag tag)
loosened p = p

-- Values.

-- a byte that a loose value may hold
abbrev pub in_quotes : ℕ → ℕ → Bool
in_quotes quote c = not (nat_eq c 60 || nat_eq c quote)

high_in : (quote b : ℕ) → is_quote quote ≡ true → nat_le 128 b ≡ true → in_quotes quote b ≡ true
high_in quote b q e = grind (arith, nat_tests)

all_in : (quote : ℕ) (bytes : List ℕ) → is_quote quote ≡ true → list_all (nat_le 128) bytes ≡ true → list_all (in_quotes quote) bytes ≡ true
all_in quote [] q h = refl
all_in quote (b ∷ bs) q h =
    let p = and_parts (nat_le 128 b) (list_all (nat_le 128) bs) h in
    and_from (in_quotes quote b) (list_all (in_quotes quote) bs) (high_in quote b q p.0) (all_in quote bs q p.1)

bytes_in : (quote c : ℕ) → is_quote quote ≡ true → in_quotes quote c ≡ true → list_all (in_quotes quote) (encode_utf8 c) ≡ true
bytes_in quote c q h = at (cases_lt c 128)
  where
    at : (c < 128) ⊎ (128 ≤ c) → list_all (in_quotes quote) (encode_utf8 c) ≡ true
    at (inl l) = ap (list_all (in_quotes quote)) (encode_ascii c l) ∙ and_from (in_quotes quote c) true h refl
    at (inr m) = all_in quote (encode_utf8 c) q (high_bytes c m)

value_in : (quote : ℕ) (value : List ℕ) → is_quote quote ≡ true → list_all (may_be_quoted quote) value ≡ true → list_all (in_quotes quote) (encode_utf8_all value) ≡ true
value_in quote [] q h = refl
value_in quote (c ∷ cs) q h =
    let p = and_parts (may_be_quoted quote c) (list_all (may_be_quoted quote) cs) h in
    list_all-append (in_quotes quote) (encode_utf8 c) (encode_utf8_all cs)
    ∙ and_from (list_all (in_quotes quote) (encode_utf8 c)) (list_all (in_quotes quote) (encode_utf8_all cs))
    (bytes_in quote c q (and_parts (is_character c) (in_quotes quote c) p.0).1) (value_in quote cs q p.1)

-- Attributes and tags.

pub name_part : (name : List ℕ) → is_name name ≡ true → list_all in_name name ≡ true
name_part [] h = cc
name_part (c ∷ cs) h = let p = and_parts (begins_name c) (list_all in_name cs) h in and_from (in_name c) (list_all in_name cs) (begin_in c p.0) p.1
  where
    begin_in : (c : ℕ) → begins_name c ≡ true → in_name c ≡ true
    begin_in c e = grind (arith, nat_tests)

blank_then : (space rest : List ℕ) → list_all is_blank space ≡ true → encode_utf8_all (space ++ rest) ≡ space ++ encode_utf8_all rest
blank_then space rest h = ascii_then is_blank low_blank space rest h

name_then : (name rest : List ℕ) → is_name name ≡ true → encode_utf8_all (name ++ rest) ≡ name ++ encode_utf8_all rest
name_then name rest h = ascii_then in_name low_name name rest (name_part name h)

low_quote : (c : ℕ) → is_quote c ≡ true → c < 128
low_quote c e = grind (arith, nat_tests)

attribute_bytes : (a : Attribute) (rest : List ℕ) → IsAttribute a → encode_utf8_all (attribute_then a rest) ≡ attribute_then (byte_attribute a) (encode_utf8_all rest)
attribute_bytes a rest h =
    blank_then a.space _ h.blank_space
    ∙ ap (λ (w : List ℕ). a.space ++ w) (
    name_then a.name _ h.named
    ∙ ap (λ (w : List ℕ). a.name ++ w) (
    blank_then a.before_equals _ h.blank_before
    ∙ ap (λ (w : List ℕ). a.before_equals ++ w) (
    word_then (codes "=") _ refl
    ∙ ap (λ (w : List ℕ). 61 ∷ w) (
    blank_then a.after_equals _ h.blank_after
    ∙ ap (λ (w : List ℕ). a.after_equals ++ w) (
    ascii_then is_quote low_quote (a.quote ∷ []) _ (and_from (is_quote a.quote) true h.quoted refl)
    ∙ ap (λ (w : List ℕ). a.quote ∷ w) (
    encodes-append a.value (a.quote ∷ rest)
    ∙ ap (λ (w : List ℕ). encode_utf8_all a.value ++ w) (ascii_then is_quote low_quote (a.quote ∷ []) rest (and_from (is_quote a.quote) true h.quoted refl))))))))

attributes_bytes : (all : List Attribute) (rest : List ℕ) → AreAttributes all → encode_utf8_all (attributes_then all rest) ≡ attributes_then (map byte_attribute all) (encode_utf8_all rest)
attributes_bytes [] rest h = refl
attributes_bytes (a ∷ more) rest h = attribute_bytes a (attributes_then more rest) h.0 ∙ ap (attribute_then (byte_attribute a)) (attributes_bytes more rest h.1)

tag_bytes : (tag : Tag) (rest : List ℕ) → IsTag tag → encode_utf8_all (tag_then tag rest) ≡ tag_then (byte_tag tag) (encode_utf8_all rest)
tag_bytes tag rest h =
    name_then tag.name _ h.named
    ∙ ap (λ (w : List ℕ). tag.name ++ w) (attributes_bytes tag.attributes (tag.space ++ rest) h.attributes ∙ ap (attributes_then (map byte_attribute tag.attributes)) (blank_then tag.space rest h.blank_space))

same_bytes : (table : Table) (place : Place) (p : Piece) → IsLawful table place p → loose_bytes (loosened p) ≡ piece_bytes p
same_bytes table place mark h = refl
same_bytes table place (declaration d) h = refl
same_bytes table place (doctype d) h = refl
same_bytes table place (start_tag tag) h =
    sym (word_then (codes "<") (tag_then tag (62 ∷ [])) refl ∙ ap (λ (w : List ℕ). 60 ∷ w) (tag_bytes tag (62 ∷ []) h.is ∙ ap (tag_then (byte_tag tag)) (word_then (codes ">") [] refl)))
same_bytes table place (empty_tag tag) h =
    sym (
    word_then (codes "<") (tag_then tag (47 ∷ 62 ∷ [])) refl
    ∙ ap (λ (w : List ℕ). 60 ∷ w) (tag_bytes tag (47 ∷ 62 ∷ []) h.is ∙ ap (tag_then (byte_tag tag)) (word_then (codes "/>") [] refl)))
same_bytes table place (end_tag name space) h = refl
same_bytes table place (leaf l) h = refl

-- What is lawful is loose.

loose_attribute : (a : Attribute) → IsAttribute a → IsLooseAttribute (byte_attribute a)
loose_attribute a h = record {
  some_space = h.some_space;
  blank_space = h.blank_space;
  named = h.named;
  blank_before = h.blank_before;
  blank_after = h.blank_after;
  quoted = h.quoted;
  value = value_in a.quote a.value h.quoted h.characters;
}

loose_attributes : (all : List Attribute) → AreAttributes all → AreLooseAttributes (map byte_attribute all)
loose_attributes [] h = tt
loose_attributes (a ∷ more) h = (loose_attribute a h.0, loose_attributes more h.1)

loose_tag : (table : Table) (tag : Tag) → IsTag tag → tag_fits table tag ≡ true → IsLooseTag table (byte_tag tag)
loose_tag table tag h fits =
    let r = tag_declared table tag fits in
    record { named = h.named; declared = ap is_some_rule r.1; attributes = loose_attributes tag.attributes h.attributes; blank_space = h.blank_space }

is_loose : (table : Table) (place : Place) (p : Piece) → IsLawful table place p → IsLoose table place (loosened p)
is_loose table place mark h = h
is_loose table place (declaration d) h = h
is_loose table place (doctype d) h = h
is_loose table place (start_tag tag) h = loose_tag table tag h.is h.allowed
is_loose table place (empty_tag tag) h = loose_tag table tag h.is h.allowed
is_loose table place (end_tag name space) h = h
is_loose table place (leaf (character c)) h = h
is_loose table place (leaf (reference (decimal digits))) h = (and_parts _ _ h.is.1).0
is_loose table place (leaf (reference (hexadecimal digits))) h = (and_parts _ _ h.is.1).0
is_loose table place (leaf (reference (entity name))) h = and_from _ _ h.is.1 h.allowed
is_loose table place (leaf (section text)) h = h
is_loose table place (leaf (comment text)) h = h
is_loose table place (leaf (instruction target text)) h = h

same_place : (place : Place) (p : Piece) → after place p ≡ after place (loosened p)
same_place place mark = refl
same_place place (declaration d) = refl
same_place place (doctype d) = refl
same_place place (start_tag tag) = refl
same_place place (empty_tag tag) = refl
same_place place (end_tag name space) = refl
same_place place (leaf l) = refl

are_loose : (table : Table) (place : Place) (ps : List Piece) → AreLawful table place ps → AreLoose table place (map loosened ps)
are_loose table place [] h = tt
are_loose table place (p ∷ ps) h = (is_loose table place p h.0, subst (λ (x : Place). AreLoose table x (map loosened ps)) (same_place place p) (are_loose table (after place p) ps h.1))

all_bytes : (table : Table) (place : Place) (ps : List Piece) → AreLawful table place ps → loose_then (map loosened ps) ≡ bytes_then ps []
all_bytes table place [] h = refl
all_bytes table place (p ∷ ps) h =
    ap (λ (w : List ℕ). w ++ loose_then (map loosened ps)) (same_bytes table place p h.0) ∙ ap (λ (w : List ℕ). piece_bytes p ++ w) (all_bytes table (after place p) ps h.1)

-- The tokens.

bad_behind : (table : Table) (ps : List Piece) → list_any is_bad (tokens_then table ps (token.Bad ∷ [])) ≡ true
bad_behind table [] = refl
bad_behind table (p ∷ ps) =
    list_any-append is_bad (piece_tokens table p) (tokens_then table ps (token.Bad ∷ []))
    ∙ or_right (list_any is_bad (piece_tokens table p)) (list_any is_bad (tokens_then table ps (token.Bad ∷ []))) (bad_behind table ps)

pub broken_have_bad : BrokenHaveBad
broken_have_bad table bytes tokens broken t = ap (list_any is_bad) (sym t.are) ∙ at t.rest t.spelled
  where
    at : (rest : List ℕ) → bytes_then t.pieces rest ≡ bytes → list_any is_bad (tokens_then table t.pieces (left_tokens rest)) ≡ true
    at [] e = absurd (broken (map loosened t.pieces) (are_loose table at_beginning t.pieces t.lawful) (all_bytes table at_beginning t.pieces t.lawful ∙ e))
    at (b ∷ rest) e = bad_behind table t.pieces
