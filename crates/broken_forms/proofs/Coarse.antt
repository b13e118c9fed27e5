-- The loose forms of tags and references lie within the coarse ones.
use Rattle.std.proofs.Common.{◌≡◌, ◌<◌, ℕ, Bool, true, List, [], ◌∷◌, refl, arith}
use Rattle.std.specs.Prelude.{◌==◌, ◌||◌, codes}
use Rattle.std.specs.Char.{is_ascii_digit, is_ascii_hexdigit}
use Rattle.std.proofs.lemmas.Bool.{or_left, or_right}
use Rattle.std.proofs.lemmas.Bool.Decides.{nat_tests}
use Rattle.xml_text.specs.Characters.{is_blank}
use Rattle.xml_text.specs.Names.{begins_name, in_name, is_name}
use Rattle.dtd_model.specs.References.{known_entities}
use Rattle.derivatives.specs.Expressions.{Expr, range, star, Matches}
use Rattle.derivatives.specs.Derivatives.{chain_of, either_of}
use Rattle.page_forms.specs.Quotes.{quoted}
use Rattle.page_forms.specs.References.{entity_form}
use Rattle.page_forms.specs.Words.{word, one_of_words, ascii, blanks, gap, name_form}
use Rattle.page_forms.proofs.NameForms.{begins_in}
use Rattle.coarse_forms.specs.CoarseForms.{value_bytes, coarse_tag, coarse_end_tag, coarse_reference, coarse_form}
use Rattle.coarse_forms.specs.Laws.{OfBytes}
use Rattle.coarse_forms.proofs.Bytes.{ascii_made}
use Rattle.coarse_forms.proofs.Counted.{coarse_bytes}
use Rattle.coarse_forms.proofs.Lawful.{tags_coarse, end_tags_coarse, references_coarse}
use Rattle.coarse_forms.proofs.Within.{Within, own, further, in_chain, in_left, in_right, both, to_right, of_word, once, stars, more, before, none_before, in_ascii}
use Rattle.broken_forms.specs.LooseForms.{loose_attribute, behind_name, loose_tag_form, end_form, some_digits, loose_reference_form}
use Rattle.broken_forms.proofs.Bytes.{tells_name, tells_words}

words_within : (names : List (List ℕ)) → Within (one_of_words is_name names) name_form
words_within names = record { goes = λ w d. let i = (tells_words names).shown w d in tells_name.made w i.passes }

-- a repetition of bytes that pass, and of others
module _ (test : ℕ → Bool) (X : Expr) (bytes : Within (ascii test) (star X)) where
  class : (t : ℕ → Bool) → ((c : ℕ) → t c ≡ true → test c ≡ true) → Within (ascii t) (star X)
  class t f = further (in_ascii t test f) bytes

  names : ((c : ℕ) → in_name c ≡ true → test c ≡ true) → Within name_form (star X)
  names f = more (ascii begins_name) (star (ascii in_name)) (class begins_name (λ c h. f c (begins_in c h))) (stars (class in_name f))

-- Tags.

abbrev tag_byte : ℕ → Bool
tag_byte c = in_name c || is_blank c || (c == 61 || c == 47)

abbrev X : Expr
X = either_of (ascii tag_byte) (quoted value_bytes)

tag_bytes_in : Within (ascii tag_byte) (star X)
tag_bytes_in = further (in_left (ascii tag_byte) (quoted value_bytes) (own (ascii tag_byte))) (once X)

name_byte : (c : ℕ) → in_name c ≡ true → tag_byte c ≡ true
name_byte c h = or_left (in_name c || is_blank c) (c == 61 || c == 47) (or_left (in_name c) (is_blank c) h)

blank_byte : (c : ℕ) → is_blank c ≡ true → tag_byte c ≡ true
blank_byte c h = or_left (in_name c || is_blank c) (c == 61 || c == 47) (or_right (in_name c) (is_blank c) h)

blanks_in : Within blanks (star X)
blanks_in = stars (class tag_byte X tag_bytes_in is_blank blank_byte)

gap_in : Within gap (star X)
gap_in = more (ascii is_blank) blanks (class tag_byte X tag_bytes_in is_blank blank_byte) blanks_in

equals_in : Within (word (codes "=")) (star X)
equals_in = further (of_word (codes "=") (ascii tag_byte) (ascii_made tag_byte 61 (omega arith) refl)) tag_bytes_in

slash_in : Within (range 47 47) (star X)
slash_in = further (of_word (codes "/") (ascii tag_byte) (ascii_made tag_byte 47 (omega arith) refl)) tag_bytes_in

attribute_in : Within loose_attribute (star X)
attribute_in =
    more gap (chain_of name_form (chain_of blanks (chain_of (word (codes "=")) (chain_of blanks (quoted value_bytes))))) gap_in
    (more name_form (chain_of blanks (chain_of (word (codes "=")) (chain_of blanks (quoted value_bytes)))) (names tag_byte X tag_bytes_in name_byte)
    (more blanks (chain_of (word (codes "=")) (chain_of blanks (quoted value_bytes))) blanks_in
    (more (word (codes "=")) (chain_of blanks (quoted value_bytes)) equals_in
    (more blanks (quoted value_bytes) blanks_in (further (in_right (ascii tag_byte) (quoted value_bytes) (own (quoted value_bytes))) (once X))))))

closed_in : Within (either_of (word (codes ">")) (word (codes "/>"))) (chain_of (star X) (word (codes ">")))
closed_in =
    both (word (codes ">")) (word (codes "/>")) (none_before X (word (codes ">")) (own (word (codes ">"))))
    (before (range 47 47) (word (codes ">")) X (word (codes ">")) slash_in (none_before X (word (codes ">")) (own (word (codes ">")))))

behind_in : Within behind_name (chain_of (star X) (word (codes ">")))
behind_in =
    before (star loose_attribute) (chain_of blanks (either_of (word (codes ">")) (word (codes "/>")))) X (word (codes ">")) (stars attribute_in)
    (before blanks (either_of (word (codes ">")) (word (codes "/>"))) X (word (codes ">")) blanks_in closed_in)

named_in : Within (chain_of name_form behind_name) (chain_of (ascii begins_name) (chain_of (star X) (word (codes ">"))))
named_in =
    further (to_right (ascii begins_name) (star (ascii in_name)) behind_name)
    (in_chain (ascii begins_name) (chain_of (star (ascii in_name)) behind_name) (ascii begins_name) (chain_of (star X) (word (codes ">"))) (own (ascii begins_name))
    (before (star (ascii in_name)) behind_name X (word (codes ">")) (stars (class tag_byte X tag_bytes_in in_name name_byte)) behind_in))

pub tags_within : (names : List (List ℕ)) → Within (loose_tag_form names) coarse_form
unfolding loose_tag_form
tags_within names =
    further
    (in_chain (word (codes "<")) (chain_of (one_of_words is_name names) behind_name) (word (codes "<")) (chain_of (ascii begins_name) (chain_of (star X) (word (codes ">")))) (own (word (codes "<")))
    (further (in_chain (one_of_words is_name names) behind_name name_form behind_name (words_within names) (own behind_name)) named_in))
    tags_coarse

pub tag_bytes : (names : List (List ℕ)) (w : List ℕ) → Matches (loose_tag_form names) w → OfBytes w
tag_bytes names w d = coarse_bytes w ((tags_within names).goes w d)

-- End tags.

abbrev end_byte : ℕ → Bool
end_byte c = in_name c || is_blank c

pub ends_within : (names : List (List ℕ)) → Within (end_form names) coarse_form
unfolding end_form
ends_within ns =
    further
    (in_chain (word (codes "</")) (chain_of (one_of_words is_name ns) (chain_of blanks (word (codes ">")))) (word (codes "</")) (chain_of (star (ascii end_byte)) (word (codes ">"))) (own (word (codes "</")))
    (before (one_of_words is_name ns) (chain_of blanks (word (codes ">"))) (ascii end_byte) (word (codes ">"))
    (further (words_within ns) (names end_byte (ascii end_byte) (once (ascii end_byte)) (λ c h. or_left (in_name c) (is_blank c) h)))
    (before blanks (word (codes ">")) (ascii end_byte) (word (codes ">")) (stars (class end_byte (ascii end_byte) (once (ascii end_byte)) is_blank (λ c h. or_right (in_name c) (is_blank c) h)))
    (none_before (ascii end_byte) (word (codes ">")) (own (word (codes ">")))))))
    end_tags_coarse

-- References.

abbrev reference_byte : ℕ → Bool
reference_byte c = in_name c || c == 35

abbrev R : Expr
R = star (ascii reference_byte)

digits_in : (is_digit : ℕ → Bool) → ((c : ℕ) → is_digit c ≡ true → reference_byte c ≡ true) → Within (some_digits is_digit) R
digits_in is_digit f =
    more (ascii is_digit) (star (ascii is_digit)) (class reference_byte (ascii reference_byte) (once (ascii reference_byte)) is_digit f)
    (stars (class reference_byte (ascii reference_byte) (once (ascii reference_byte)) is_digit f))

decimal_byte : (c : ℕ) → is_ascii_digit c ≡ true → reference_byte c ≡ true
decimal_byte c h = grind (arith, nat_tests)

hexadecimal_byte : (c : ℕ) → is_ascii_hexdigit c ≡ true → reference_byte c ≡ true
hexadecimal_byte c h = grind (arith, nat_tests)

byte_in : (b : ℕ) → Matches (ascii reference_byte) (b ∷ []) → Within (word (b ∷ [])) R
byte_in b d = further (of_word (b ∷ []) (ascii reference_byte) d) (once (ascii reference_byte))

numbers_in : Within (chain_of (word (codes "#")) (either_of (some_digits is_ascii_digit) (chain_of (word (codes "x")) (some_digits is_ascii_hexdigit)))) R
numbers_in =
    more (word (codes "#")) (either_of (some_digits is_ascii_digit) (chain_of (word (codes "x")) (some_digits is_ascii_hexdigit))) (byte_in 35 (ascii_made reference_byte 35 (omega arith) refl))
    (both (some_digits is_ascii_digit) (chain_of (word (codes "x")) (some_digits is_ascii_hexdigit)) (digits_in is_ascii_digit decimal_byte)
    (more (word (codes "x")) (some_digits is_ascii_hexdigit) (byte_in 120 (ascii_made reference_byte 120 (omega arith) refl)) (digits_in is_ascii_hexdigit hexadecimal_byte)))

entity_names_in : (ns : List (List ℕ)) → Within (one_of_words is_name ns) R
entity_names_in ns = further (words_within ns) (names reference_byte (ascii reference_byte) (once (ascii reference_byte)) (λ c h. or_left (in_name c) (c == 35) h))

pub references_within : (entities : List (List ℕ)) → Within (loose_reference_form entities) coarse_form
unfolding loose_reference_form
references_within entities =
    further
    (in_chain (word (codes "&"))
    (chain_of (either_of (chain_of (word (codes "#")) (either_of (some_digits is_ascii_digit) (chain_of (word (codes "x")) (some_digits is_ascii_hexdigit)))) (entity_form entities)) (word (codes ";")))
    (word (codes "&")) (chain_of R (word (codes ";"))) (own (word (codes "&")))
    (before (either_of (chain_of (word (codes "#")) (either_of (some_digits is_ascii_digit) (chain_of (word (codes "x")) (some_digits is_ascii_hexdigit)))) (entity_form entities)) (word (codes ";")) (ascii reference_byte) (word (codes ";"))
    (both (chain_of (word (codes "#")) (either_of (some_digits is_ascii_digit) (chain_of (word (codes "x")) (some_digits is_ascii_hexdigit)))) (entity_form entities) numbers_in
    (both (one_of_words is_name known_entities) (one_of_words is_name entities) (entity_names_in known_entities) (entity_names_in entities)))
    (none_before (ascii reference_byte) (word (codes ";")) (own (word (codes ";"))))))
    references_coarse
