-- What is open in a reference and in the value of an attribute, by the characters read so far.
use Rattle.std.specs.Prelude.{◌≡◌, ◌≢◌, ◌-◌, ℕ, Bool, true, not, if◌then◌else◌, List, [], ◌∷◌, ◌++◌, length, min, nat_lt, codes, Option, None, Some}
use Rattle.std.specs.Char.{is_ascii_digit, is_ascii_hexdigit}
use Rattle.std.specs.List.{list_all}
use Rattle.xml_text.specs.Characters.{is_blank}
use Rattle.xml_text.specs.Names.{in_name}
use Rattle.dtd_model.specs.References.{number_written}
use Rattle.dtd_model.specs.Table.{Kind, cdata, id, idref, idrefs, nmtoken, nmtokens, one_of, Presence, implied, required, with_default, fixed, Declared}
use Rattle.page_model.specs.Attributes.{words_of}
use Rattle.page_model.specs.Parts.{has_semicolon}

-- behind the `&` of a reference (XML 1.0, 4.1)
pub data OpenReference : Type 0 where
  -- so much of the name of an entity
  in_entity : List ℕ → OpenReference
  -- `#`, and nothing more
  at_number : OpenReference
  -- digits that write this number, all numbers over 0x10FFFF being one
  in_decimal : ℕ → OpenReference
  -- `x`, and maybe digits
  in_hexadecimal : Option ℕ → OpenReference

-- all numbers that are over those of characters are one
abbrev pub capped : ℕ → ℕ
capped n = min n 0x110000

-- the characters are hexadecimal digits of this number, numbers over 0x10FFFF being one; or there are none yet
abbrev pub HexadecimalStands : Option ℕ → List ℕ → Type 0
HexadecimalStands None digits = digits ≡ []
HexadecimalStands (Some n) digits = (digits ≢ []) × (list_all is_ascii_hexdigit digits ≡ true) × (n ≡ capped (number_written 16 0 digits))

-- the characters behind `&` are so much of a reference, by what is open
abbrev pub ReferenceStands : OpenReference → List ℕ → Type 0
ReferenceStands (in_entity name) cs = (cs ≡ name) × (list_all in_name name ≡ true)
ReferenceStands at_number cs = cs ≡ codes "#"
ReferenceStands (in_decimal n) cs =
    (digits : List ℕ) × (cs ≡ 35 ∷ digits) × (digits ≢ []) × (list_all is_ascii_digit digits ≡ true)
    × (n ≡ capped (number_written 10 0 digits))
ReferenceStands (in_hexadecimal o) cs = (digits : List ℕ) × (cs ≡ 35 ∷ 120 ∷ digits) × HexadecimalStands o digits

-- in the quotes of a value
pub data OpenValue : Type 0 where
  -- CDATA, outside references
  in_text : OpenValue
  -- CDATA, behind a `&`
  in_reference : OpenReference → OpenValue
  -- so much of a fixed value
  in_fixed : List ℕ → OpenValue
  -- so much of the one word of a choice, and whether white space stands behind it
  in_choice : List ℕ → Bool → OpenValue
  -- whether a name or a name token is open, and whether one stands before it
  in_words : Bool → Bool → OpenValue

-- the last character is white space, or there is none
abbrev pub ends_blank : List ℕ → Bool
ends_blank [] = true
ends_blank (c ∷ []) = is_blank c
ends_blank (c ∷ d ∷ cs) = ends_blank (d ∷ cs)

-- the first of the words, if there is one
abbrev pub first_word : List (List ℕ) → List ℕ
first_word [] = []
first_word (word ∷ words) = word

-- how many words are over
abbrev pub words_behind : List ℕ → ℕ
words_behind cs = if ends_blank cs then length (words_of cs) else length (words_of cs) - 1

-- CDATA: no `&` is open, or the last one is
abbrev pub TextStands : OpenValue → List ℕ → Type 0
TextStands in_text cs = (front behind : List ℕ) → cs ≡ front ++ 38 ∷ behind → has_semicolon behind ≡ true
TextStands (in_reference r) cs = (front behind : List ℕ) × (cs ≡ front ++ 38 ∷ behind) × ReferenceStands r behind
TextStands v cs = ⊥

-- the characters behind the quote are so much of a value of the type, by what is open
abbrev pub KindStands : Kind → OpenValue → List ℕ → Type 0
KindStands cdata v cs = TextStands v cs
KindStands (one_of tokens) v cs = v ≡ in_choice (first_word (words_of cs)) (nat_lt 0 (words_behind cs))
KindStands id v cs = v ≡ in_words (not (ends_blank cs)) (nat_lt 0 (words_behind cs))
KindStands idref v cs = v ≡ in_words (not (ends_blank cs)) (nat_lt 0 (words_behind cs))
KindStands idrefs v cs = v ≡ in_words (not (ends_blank cs)) (nat_lt 0 (words_behind cs))
KindStands nmtoken v cs = v ≡ in_words (not (ends_blank cs)) (nat_lt 0 (words_behind cs))
KindStands nmtokens v cs = v ≡ in_words (not (ends_blank cs)) (nat_lt 0 (words_behind cs))

-- the value, of an attribute that is declared so, by its characters so far
abbrev pub ValueStands : Declared → OpenValue → List ℕ → Type 0
ValueStands d v cs = BySide d.presence
  where
    BySide : Presence → Type 0
    BySide (fixed wanted) = v ≡ in_fixed cs
    BySide implied = KindStands d.kind v cs
    BySide required = KindStands d.kind v cs
    BySide with_default = KindStands d.kind v cs
