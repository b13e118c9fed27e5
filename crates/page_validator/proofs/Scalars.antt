-- The characters of lawful pieces are characters of Unicode, so that their UTF-8 is UTF-8.
use Rattle.std.proofs.Common.{◌≡◌, ℕ, ◌<◌, Bool, true, ◌&&◌, List, [], ◌∷◌, ◌++◌, refl, codes, arith}
use Rattle.std.specs.List.{list_all}
use Rattle.std.specs.Char.{is_ascii_digit, is_ascii_hexdigit}
use Rattle.std.specs.Str.{all_scalars, IsUtf8, encode_utf8_all}
use Rattle.std.proofs.lemmas.Bool.{and_parts, and_from}
use Rattle.std.proofs.lemmas.Bool.Decides.{nat_tests}
use lib.Utf8.{scalar, low_scalar}
use Rattle.xml_text.specs.Characters.{is_blank, is_character}
use Rattle.xml_text.specs.Names.{begins_name, in_name, is_name, in_public_identifier}
use Rattle.dtd_model.specs.References.{Reference, decimal, hexadecimal, entity, is_reference, is_some, number_written}
use Rattle.page_model.specs.Parts.{Attribute, attributes_then, AreAttributes, Tag, IsTag, Leaf, character, reference, section, comment, instruction, leaf_then, IsLeaf, is_quote, may_be_quoted}
use Rattle.page_model.specs.Pieces.{Piece, mark, declaration, doctype, start_tag, empty_tag, end_tag, leaf, piece_then, pieces_then, IsPiece, ArePieces, after}
use Rattle.page_model.specs.Places.{Place}
use Rattle.page_model.specs.Prolog.{Literal, literal_then, IsLiteral, Identifier, no_identifier, system, public, identifier_then, IsIdentifier}

pub record Sound (xs : List ℕ) : Type 0 where
  pub all : all_scalars xs ≡ true

sound : (xs : List ℕ) → all_scalars xs ≡ true → Sound xs
sound xs h = record { all = h }

joined : (xs ys : List ℕ) → Sound xs → Sound ys → Sound (xs ++ ys)
joined [] ys h g = g
joined (x ∷ xs) ys h g = let p = and_parts (scalar x) (all_scalars xs) h.all in record { all = and_from (scalar x) (all_scalars (xs ++ ys)) p.0 (joined xs ys (sound xs p.1) g).all }

by_test : (test : ℕ → Bool) → ((c : ℕ) → test c ≡ true → scalar c ≡ true) → (xs : List ℕ) → list_all test xs ≡ true → Sound xs
by_test test f [] h = record { all = refl }
by_test test f (x ∷ xs) h = let p = and_parts (test x) (list_all test xs) h in record { all = and_from (scalar x) (all_scalars xs) (f x p.0) (by_test test f xs p.1).all }

low_blank : (c : ℕ) → is_blank c ≡ true → c < 55296
low_blank c h = grind (arith, nat_tests)

low_name : (c : ℕ) → in_name c ≡ true → c < 55296
low_name c h = grind (arith, nat_tests)

low_begin : (c : ℕ) → begins_name c ≡ true → c < 55296
low_begin c h = grind (arith, nat_tests)

low_digit : (c : ℕ) → is_ascii_digit c ≡ true → c < 55296
low_digit c h = grind (arith, nat_tests)

low_hex : (c : ℕ) → is_ascii_hexdigit c ≡ true → c < 55296
low_hex c h = grind (arith, nat_tests)

low_quote : (c : ℕ) → is_quote c ≡ true → c < 55296
low_quote c h = grind (arith, nat_tests)

low_public : (c : ℕ) → in_public_identifier c ≡ true → c < 55296
low_public c h = grind (arith, nat_tests)

character_scalar : (c : ℕ) → is_character c ≡ true → scalar c ≡ true
character_scalar c h = grind (arith, nat_tests)

blanks : (xs : List ℕ) → list_all is_blank xs ≡ true → Sound xs
blanks xs h = by_test is_blank (λ c g. low_scalar c (low_blank c g)) xs h

characters : (xs : List ℕ) → list_all is_character xs ≡ true → Sound xs
characters xs h = by_test is_character character_scalar xs h

name_sound : (xs : List ℕ) → is_name xs ≡ true → Sound xs
name_sound [] h = record { all = refl }
name_sound (c ∷ cs) h =
    let p = and_parts (begins_name c) (list_all in_name cs) h in
    record { all = and_from (scalar c) (all_scalars cs) (low_scalar c (low_begin c p.0)) (by_test in_name (λ c g. low_scalar c (low_name c g)) cs p.1).all }

put : (c : ℕ) (xs : List ℕ) → c < 55296 → Sound xs → Sound (c ∷ xs)
put c xs l h = record { all = and_from (scalar c) (all_scalars xs) (low_scalar c l) h.all }

attributes_sound : (as' : List Attribute) (rest : List ℕ) → AreAttributes as' → Sound rest → Sound (attributes_then as' rest)
attributes_sound [] rest h g = g
attributes_sound (a ∷ more) rest h g =
    let q = low_quote a.quote h.0.quoted in
    let value = by_test (may_be_quoted a.quote) (λ c k. character_scalar c (and_parts (is_character c) _ k).0) a.value h.0.characters in
    joined a.space _ (blanks a.space h.0.blank_space) (joined a.name _ (name_sound a.name h.0.named) (joined a.before_equals _ (blanks a.before_equals h.0.blank_before)
    (joined (codes "=") _ (sound (codes "=") refl) (joined a.after_equals _ (blanks a.after_equals h.0.blank_after) (put a.quote _ q (joined a.value _ value (put a.quote _ q (attributes_sound more rest h.1 g))))))))

tag_sound : (tag : Tag) (rest : List ℕ) → IsTag tag → Sound rest → Sound (tag.name ++ attributes_then tag.attributes (tag.space ++ rest))
tag_sound tag rest h g = joined tag.name _ (name_sound tag.name h.named) (attributes_sound tag.attributes _ h.attributes (joined tag.space rest (blanks tag.space h.blank_space) g))

literal_sound : (test : ℕ → Bool) → ((c : ℕ) → test c ≡ true → scalar c ≡ true) → (l : Literal) (rest : List ℕ) → IsLiteral test l → Sound rest → Sound (literal_then l rest)
literal_sound test f l rest h g =
    let q = low_quote l.quote h.quoted in
    put l.quote _ q (joined l.text _ (by_test _ (λ c k. f c (and_parts (test c) _ k).0) l.text h.pass) (put l.quote rest q g))

identifier_sound : (i : Identifier) (rest : List ℕ) → IsIdentifier i → Sound rest → Sound (identifier_then i rest)
identifier_sound no_identifier rest h g = g
identifier_sound (system s t l) rest h g =
    joined s _ (blanks s h.0.blank) (joined (codes "SYSTEM") _ (sound (codes "SYSTEM") refl) (joined t _ (blanks t h.1.blank) (literal_sound is_character character_scalar l rest h.2 g)))
identifier_sound (public s t l u m) rest h g =
    joined s _ (blanks s h.0.blank) (joined (codes "PUBLIC") _ (sound (codes "PUBLIC") refl) (joined t _ (blanks t h.1.blank) (literal_sound in_public_identifier (λ c k. low_scalar c (low_public c k)) l _ h.2 (joined u _ (blanks u h.3.blank) (literal_sound is_character character_scalar m rest h.4 g)))))

reference_sound : (r : Reference) (rest : List ℕ) → is_reference r ≡ true → Sound rest → Sound (leaf_then (reference r) rest)
reference_sound (decimal digits) rest h g =
    let p = and_parts (is_some digits && list_all is_ascii_digit digits) (is_character (number_written 10 0 digits)) h in
    let d = (and_parts (is_some digits) (list_all is_ascii_digit digits) p.0).1 in
    joined (codes "&#") _ (sound (codes "&#") refl) (joined digits _ (by_test is_ascii_digit (λ c k. low_scalar c (low_digit c k)) digits d) (joined (codes ";") rest (sound (codes ";") refl) g))
reference_sound (hexadecimal digits) rest h g =
    let p = and_parts (is_some digits && list_all is_ascii_hexdigit digits) (is_character (number_written 16 0 digits)) h in
    let d = (and_parts (is_some digits) (list_all is_ascii_hexdigit digits) p.0).1 in
    joined (codes "&#x") _ (sound (codes "&#x") refl) (joined digits _ (by_test is_ascii_hexdigit (λ c k. low_scalar c (low_hex c k)) digits d) (joined (codes ";") rest (sound (codes ";") refl) g))
reference_sound (entity name) rest h g = joined (codes "&") _ (sound (codes "&") refl) (joined name _ (name_sound name h) (joined (codes ";") rest (sound (codes ";") refl) g))

leaf_sound : (l : Leaf) (rest : List ℕ) → IsLeaf l → Sound rest → Sound (leaf_then l rest)
leaf_sound (character c) rest h g = record { all = and_from (scalar c) (all_scalars rest) (character_scalar c (and_parts (is_character c) _ h).0) g.all }
leaf_sound (reference r) rest h g = reference_sound r rest h g
leaf_sound (section text) rest h g = joined (codes "<![CDATA[") _ (sound (codes "<![CDATA[") refl) (joined text _ (characters text h.characters) (joined (codes "]]>") rest (sound (codes "]]>") refl) g))
leaf_sound (comment text) rest h g = joined (codes "<!--") _ (sound (codes "<!--") refl) (joined text _ (characters text h.characters) (joined (codes "-->") rest (sound (codes "-->") refl) g))
leaf_sound (instruction target text) rest h g = joined (codes "<?") _ (sound (codes "<?") refl) (joined target _ (name_sound target h.named) (joined text _ (characters text h.characters) (joined (codes "?>") rest (sound (codes "?>") refl) g)))

piece_sound : (place : Place) (p : Piece) (rest : List ℕ) → IsPiece place p → Sound rest → Sound (piece_then p rest)
piece_sound place mark rest h g = record { all = and_from (scalar 0xFEFF) (all_scalars rest) refl g.all }
piece_sound place (declaration d) rest h g =
    joined (codes "<?xml") _ (sound (codes "<?xml") refl) (attributes_sound d.attributes _ h.1.attributes (joined d.space _ (blanks d.space h.1.blank_space) (joined (codes "?>") rest (sound (codes "?>") refl) g)))
piece_sound place (doctype d) rest h g =
    joined (codes "<!DOCTYPE") _ (sound (codes "<!DOCTYPE") refl) (joined d.space _ (blanks d.space h.apart.blank) (joined (codes "html") _ (sound (codes "html") refl) (identifier_sound d.identifier _ h.identifier (joined d.end_space _ (blanks d.end_space h.blank_space) (joined (codes ">") rest (sound (codes ">") refl) g)))))
piece_sound place (start_tag tag) rest h g = joined (codes "<") _ (sound (codes "<") refl) (tag_sound tag _ h (joined (codes ">") rest (sound (codes ">") refl) g))
piece_sound place (empty_tag tag) rest h g = joined (codes "<") _ (sound (codes "<") refl) (tag_sound tag _ h (joined (codes "/>") rest (sound (codes "/>") refl) g))
piece_sound place (end_tag name space) rest h g = joined (codes "</") _ (sound (codes "</") refl) (joined name _ (name_sound name h.0) (joined space _ (blanks space h.1) (joined (codes ">") rest (sound (codes ">") refl) g)))
piece_sound place (leaf l) rest h g = leaf_sound l rest h.1 g

pub pieces_sound : (place : Place) (ps : List Piece) → ArePieces place ps → Sound (pieces_then ps [])
pieces_sound place [] h = record { all = refl }
pieces_sound place (p ∷ ps) h = piece_sound place p (pieces_then ps []) h.0 (pieces_sound (after place p) ps h.1)

pub pieces_utf8 : (place : Place) (ps : List Piece) → ArePieces place ps → IsUtf8 (encode_utf8_all (pieces_then ps []))
pieces_utf8 place ps h = (pieces_then ps [], ((pieces_sound place ps h).all, refl))
