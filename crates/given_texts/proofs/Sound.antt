-- The productions derive nothing else.
use Rattle.std.proofs.Common.{◌≡◌, ◌⊎◌, inl, inr, ℕ, suc, ◌≤◌, ◌&&◌, true, List, [], ◌∷◌, ◌++◌, Option, Some, None, map, refl, sym, ◌∙◌, ap, subst, arith, IsUtf8, chars, append-nil}
use Rattle.std.specs.Prelude.{⊤, Contains}
use Rattle.std.specs.List.{list_all}
use Rattle.std.specs.Char.{is_ascii_digit, encode_utf8, IsScalar}
use Rattle.std.proofs.lemmas.Bool.{and_from}
use Rattle.std.proofs.lemmas.Bool.Decides.{nat_tests}
use Rattle.std.proofs.lemmas.List.Folds.{list_all-append}
use Rattle.std.proofs.lemmas.Str.{IsUtf8-encode, IsUtf8-append, IsUtf8-nil, chars-append, chars-nil, chars_past_char}
use Rattle.string_functions.proofs.Members.{Contains-nil, Contains-cons_cases}
use Rattle.text_base.specs.declared.byte_range.ByteRange.{ByteRange}
use Rattle.text_base.specs.declared.numbers.Nt as nt
use Rattle.text_base.specs.declared.letter.Letter.{Letter}
use Rattle.text_base.specs.declared.letter.Letter.TheVariants.{OfByte, OfToken}
use Rattle.text_base.specs.declared.page_token.PageToken.{PageToken}
use Rattle.text_base.specs.ByteRange.{InRange}
use Rattle.cfg_grammar.specs.declared.symbol.Symbol.{Symbol}
use Rattle.cfg_grammar.specs.declared.symbol.Symbol.TheVariants.{Range, Token, Nt}
use Rattle.cfg_grammar.specs.declared.production.Right.TheVariants.{Empty, One, Two}
use Rattle.cfg_grammar.specs.declared.production.Production.{Production}
use Rattle.cfg_grammar.specs.Derives.{Derives}
use Rattle.xml_text.specs.Characters.{is_character}
use Rattle.xml_text.specs.Texts.{IsText}
use Rattle.least_sets.specs.Integers.{IsCounting, IsInteger, below, above, zero_text}
use Rattle.given_texts.proofs.Splits.{split}
use Rattle.given_texts.specs.declared.text_rows.TheConstants.{ROWS, ENDS}
use Rattle.given_texts.specs.Rows.{Row, right_with, IsOne, AreAll}
use Rattle.given_texts.proofs.Characters as characters
use Rattle.given_texts.proofs.Characters.{IsOfCharacter}
use Rattle.given_texts.proofs.Means.{IsByte, IsPair, IsTriple, IsLast, AreDigits, Means}

-- a row says what its nonterminal means
abbrev pub IsSoundWith : ℕ → ℕ → ℕ → Option ℕ → Type 0
IsSoundWith left lo hi None = (b : ℕ) → lo ≤ b → b ≤ hi → Means left (b ∷ [])
IsSoundWith left lo hi (Some n) = (b : ℕ) (w : List ℕ) → lo ≤ b → b ≤ hi → Means n w → Means left (b ∷ w)

abbrev pub IsSound : Row → Type 0
IsSound row = IsSoundWith row.0 row.1 row.2 row.3

abbrev AreSound : List Row → Type 0
AreSound [] = ⊤
AreSound (row ∷ rows) = IsSound row × AreSound rows

sound_in : (rows : List Row) → AreSound rows → (row : Row) → Contains rows row → IsSound row
sound_in [] all row h = Contains-nil row h
sound_in (r ∷ rows) all row h =
    elim (Contains-cons_cases r rows row h) [
      | inl e ↦ subst IsSound e all.0
      | inr later ↦ sound_in rows all.1 row later
    ]

-- characters
of_pair : (Q : List ℕ → Type 0) (lead low high : ℕ) (w : List ℕ) → IsPair low high w → ((c d : ℕ) → low ≤ c → c ≤ high → 0x80 ≤ d → d ≤ 0xBF → Q (lead ∷ c ∷ d ∷ [])) → Q (lead ∷ w)
of_pair Q lead low high w p f =
    subst (λ z. Q (lead ∷ z)) (sym (p.is ∙ ap (λ z. p.byte ∷ z) p.behind.is)) (f p.byte p.behind.byte p.above p.below p.behind.above p.behind.below)

of_triple : (Q : List ℕ → Type 0) (lead low high : ℕ) (w : List ℕ) → IsTriple low high w → ((c d e : ℕ) → low ≤ c → c ≤ high → 0x80 ≤ d → d ≤ 0xBF → 0x80 ≤ e → e ≤ 0xBF → Q (lead ∷ c ∷ d ∷ e ∷ [])) → Q (lead ∷ w)
of_triple Q lead low high w p f =
    subst (λ z. Q (lead ∷ z)) (sym (p.is ∙ ap (λ z. p.byte ∷ z) (p.behind.is ∙ ap (λ z. p.behind.byte ∷ z) p.behind.behind.is)))
    (f p.byte p.behind.byte p.behind.behind.byte p.above p.below p.behind.above p.behind.below p.behind.behind.above p.behind.behind.below)

two : (b : ℕ) (w : List ℕ) → 0xC2 ≤ b → b ≤ 0xDF → IsByte 0x80 0xBF w → IsOfCharacter (b ∷ w)
two b w lo hi p = subst (λ z. IsOfCharacter (b ∷ z)) (sym p.is) (characters.of_two b p.byte lo hi p.above p.below)

e0 : (b : ℕ) (w : List ℕ) → 0xE0 ≤ b → b ≤ 0xE0 → IsPair 0xA0 0xBF w → IsOfCharacter (b ∷ w)
e0 b w lo hi p = of_pair IsOfCharacter b 0xA0 0xBF w p (λ c d. characters.of_e0 b c d lo hi)

e1 : (b : ℕ) (w : List ℕ) → 0xE1 ≤ b → b ≤ 0xEC → IsPair 0x80 0xBF w → IsOfCharacter (b ∷ w)
e1 b w lo hi p = of_pair IsOfCharacter b 0x80 0xBF w p (λ c d. characters.of_e1 b c d lo hi)

ed : (b : ℕ) (w : List ℕ) → 0xED ≤ b → b ≤ 0xED → IsPair 0x80 0x9F w → IsOfCharacter (b ∷ w)
ed b w lo hi p = of_pair IsOfCharacter b 0x80 0x9F w p (λ c d. characters.of_ed b c d lo hi)

ee : (b : ℕ) (w : List ℕ) → 0xEE ≤ b → b ≤ 0xEE → IsPair 0x80 0xBF w → IsOfCharacter (b ∷ w)
ee b w lo hi p = of_pair IsOfCharacter b 0x80 0xBF w p (λ c d. characters.of_ee b c d lo hi)

ef : (b : ℕ) (w : List ℕ) → 0xEF ≤ b → b ≤ 0xEF → IsPair 0x80 0xBE w ⊎ IsLast w → IsOfCharacter (b ∷ w)
ef b w lo hi (inl p) = of_pair IsOfCharacter b 0x80 0xBE w p (λ c d. characters.of_ef b c d lo hi)
ef b w lo hi (inr p) =
    subst (λ z. IsOfCharacter (b ∷ z)) (sym (p.is ∙ ap (λ z. 0xBF ∷ z) p.behind.is)) (characters.of_ef_bf b 0xBF p.behind.byte lo hi (omega arith) (omega arith) p.behind.above p.behind.below)

f0 : (b : ℕ) (w : List ℕ) → 0xF0 ≤ b → b ≤ 0xF0 → IsTriple 0x90 0xBF w → IsOfCharacter (b ∷ w)
f0 b w lo hi p = of_triple IsOfCharacter b 0x90 0xBF w p (λ c d e. characters.of_f0 b c d e lo hi)

f1 : (b : ℕ) (w : List ℕ) → 0xF1 ≤ b → b ≤ 0xF3 → IsTriple 0x80 0xBF w → IsOfCharacter (b ∷ w)
f1 b w lo hi p = of_triple IsOfCharacter b 0x80 0xBF w p (λ c d e. characters.of_f1 b c d e lo hi)

f4 : (b : ℕ) (w : List ℕ) → 0xF4 ≤ b → b ≤ 0xF4 → IsTriple 0x80 0x8F w → IsOfCharacter (b ∷ w)
f4 b w lo hi p = of_triple IsOfCharacter b 0x80 0x8F w p (λ c d e. characters.of_f4 b c d e lo hi)

byte : (lo hi : ℕ) (b : ℕ) → lo ≤ b → b ≤ hi → IsByte lo hi (b ∷ [])
byte lo hi b l h = record { byte = b; above = l; below = h; is = refl }

pair : (lo hi : ℕ) (b : ℕ) (w : List ℕ) → lo ≤ b → b ≤ hi → IsByte 0x80 0xBF w → IsPair lo hi (b ∷ w)
pair lo hi b w l h p = record { byte = b; others = w; above = l; below = h; is = refl; behind = p }

triple : (lo hi : ℕ) (b : ℕ) (w : List ℕ) → lo ≤ b → b ≤ hi → IsPair 0x80 0xBF w → IsTriple lo hi (b ∷ w)
triple lo hi b w l h p = record { byte = b; others = w; above = l; below = h; is = refl; behind = p }

bf : (b : ℕ) (w : List ℕ) → 0xBF ≤ b → b ≤ 0xBF → IsByte 0x80 0xBD w → IsPair 0x80 0xBE (b ∷ w) ⊎ IsLast (b ∷ w)
bf b w l h p =
    let same : b ≡ 0xBF = omega arith in
    inr (record { others = w; is = ap (λ z. z ∷ w) same; behind = p })

-- integers
digit : (b : ℕ) → 0x30 ≤ b → b ≤ 0x39 → is_ascii_digit b ≡ true
digit b l h = grind (arith, nat_tests)

digits : (k : ℕ) (b : ℕ) (w : List ℕ) → 0x30 ≤ b → b ≤ 0x39 → AreDigits k w → AreDigits (suc k) (b ∷ w)
digits k b w l h d = record { digits = and_from (is_ascii_digit b) (list_all is_ascii_digit w) (digit b l h) d.digits; few = let f = d.few in omega arith }

counting : (b : ℕ) (w : List ℕ) → 0x31 ≤ b → b ≤ 0x39 → AreDigits 18 w → IsCounting (b ∷ w)
counting b w l h d = record { first = b; more = w; is = refl; least = l; most = h; digits = d.digits; few = d.few }

nought : (b : ℕ) → 0x30 ≤ b → b ≤ 0x30 → IsInteger (b ∷ [])
nought b l h = let same : 48 ≡ b = omega arith in subst (λ z. IsInteger (z ∷ [])) same zero_text

negative : (b : ℕ) (w : List ℕ) → 0x2D ≤ b → b ≤ 0x2D → IsCounting w → IsInteger (b ∷ w)
negative b w l h c = let same : 45 ≡ b = omega arith in subst (λ z. IsInteger (z ∷ w)) same (below w c)

positive : (b : ℕ) (w : List ℕ) → 0x31 ≤ b → b ≤ 0x39 → AreDigits 18 w → IsInteger (b ∷ w)
positive b w l h d = above (b ∷ w) (counting b w l h d)

all_sound : AreSound ROWS
all_sound = (characters.tab, (characters.carriage, (characters.printable, (two, (e0, (e1, (ed, (ee, (ef, (f0, (f1, (f4, (byte 0x80 0xBF, (pair 0x80 0xBF, (triple 0x80 0xBF, (pair 0xA0 0xBF, (pair 0x80 0x9F, ((λ b w l h p. inl (pair 0x80 0xBE b w l h p)), (bf, (byte 0x80 0xBD, (triple 0x90 0xBF, (triple 0x80 0x8F, (nought, (negative, (positive, (counting, (digits 0, (digits 1, (digits 2, (digits 3, (digits 4, (digits 5, (digits 6, (digits 7, (digits 8, (digits 9, (digits 10, (digits 11, (digits 12, (digits 13, (digits 14, (digits 15, (digits 16, (digits 17, tt))))))))))))))))))))))))))))))))))))))))))))

pub row_sound : (row : Row) → Contains ROWS row → IsSound row
row_sound row h = sound_in ROWS all_sound row h

-- what may be empty
abbrev AreEmpty : List ℕ → Type 0
AreEmpty [] = ⊤
AreEmpty (n ∷ ns) = Means n [] × AreEmpty ns

empty_in : (ns : List ℕ) → AreEmpty ns → (n : ℕ) → Contains ns n → Means n []
empty_in [] all n h = Contains-nil n h
empty_in (m ∷ ns) all n h =
    elim (Contains-cons_cases m ns n h) [
      | inl e ↦ subst (λ z. Means z []) e all.0
      | inr later ↦ empty_in ns all.1 n later
    ]

no_text : IsText []
no_text = record { utf8 = IsUtf8-nil; characters = ap (list_all is_character) chars-nil }

no_digits : (k : ℕ) → AreDigits k []
no_digits k = record { digits = refl; few = omega arith }

all_empty : AreEmpty ENDS
all_empty = (no_text, (no_digits 0, (no_digits 1, (no_digits 2, (no_digits 3, (no_digits 4, (no_digits 5, (no_digits 6, (no_digits 7, (no_digits 8, (no_digits 9, (no_digits 10, (no_digits 11, (no_digits 12, (no_digits 13, (no_digits 14, (no_digits 15, (no_digits 16, (no_digits 17, (no_digits 18, tt))))))))))))))))))))

-- a text and a character
scalar_of : (c : ℕ) → is_character c ≡ true → IsScalar c
scalar_of c h = grind (arith, nat_tests)

more_text : (v w : List ℕ) → IsText v → IsOfCharacter w → IsText (v ++ w)
more_text v w t c =
    let scalar : IsScalar c.code = scalar_of c.code c.is in
    let utf8 : IsUtf8 w = subst IsUtf8 c.bytes (IsUtf8-encode c.code scalar) in
    let one : chars w ≡ c.code ∷ [] = chars_past_char w [] c.code utf8 (sym c.bytes ∙ sym (append-nil (encode_utf8 c.code))) ∙ ap (λ z. c.code ∷ z) chars-nil in
    let all : chars (v ++ w) ≡ chars v ++ c.code ∷ [] = chars-append v w t.utf8 ∙ ap (λ z. chars v ++ z) one in
    record {
      utf8 = IsUtf8-append v w t.utf8 utf8;
      characters = ap (list_all is_character) all ∙ list_all-append is_character (chars v) (c.code ∷ []) ∙ and_from (list_all is_character (chars v)) (is_character c.code && true) t.characters (and_from (is_character c.code) true c.is refl);
    }

-- what a symbol stands for
abbrev pub SymbolMeans : Symbol → List ℕ → Type 0
SymbolMeans (Range r) w = (b : ℕ) × InRange r b × (w ≡ b ∷ [])
SymbolMeans (Token t) w = ⊥
SymbolMeans (Nt a) w = Means a.0 w

-- the kinds of productions, by their right sides
empty_kind : (left : nt.Nt) → IsOne (record { left = left; right = Empty }) → Contains ENDS left.0
empty_kind _ (IsOne.an_end n h) = h
empty_kind left (IsOne.a_row row _ h is) = absurd (no_empty row.3 is.1 is.4)
  where
    no_empty : (next : Option ℕ) (r : ByteRange) → Empty ≡ right_with r next → ⊥
    no_empty None r e = cc
    no_empty (Some n) r e = cc

-- a row and a byte of it
row_alone : (row : Row) → Contains ROWS row → (left : ℕ) (r : ByteRange) (w : List ℕ) → left ≡ row.0 → r.lo ≡ row.1 → r.hi ≡ row.2 → row.3 ≡ None → SymbolMeans (Range r) w → Means left w
row_alone row h left r w is lo hi none m =
    let sound : IsSoundWith row.0 row.1 row.2 None = subst (λ z. IsSoundWith row.0 row.1 row.2 z) none (row_sound row h) in
    let above : row.1 ≤ m.0 = subst (λ z. z ≤ m.0) lo m.1.0 in
    let below : m.0 ≤ row.2 = subst (λ z. m.0 ≤ z) hi m.1.1 in
    subst (λ z. Means z w) (sym is) (subst (λ z. Means row.0 z) (sym m.2) (sound m.0 above below))

row_before : (row : Row) → Contains ROWS row → (left n : ℕ) (r : ByteRange) (v w : List ℕ) → left ≡ row.0 → r.lo ≡ row.1 → r.hi ≡ row.2 → row.3 ≡ Some n → SymbolMeans (Range r) v → Means n w → Means left (v ++ w)
row_before row h left n r v w is lo hi some m behind =
    let sound : IsSoundWith row.0 row.1 row.2 (Some n) = subst (λ z. IsSoundWith row.0 row.1 row.2 z) some (row_sound row h) in
    let above : row.1 ≤ m.0 = subst (λ z. z ≤ m.0) lo m.1.0 in
    let below : m.0 ≤ row.2 = subst (λ z. m.0 ≤ z) hi m.1.1 in
    subst (λ z. Means z (v ++ w)) (sym is) (subst (λ z. Means row.0 (z ++ w)) (sym m.2) (sound m.0 w above below behind))

one_kind : (left : nt.Nt) (a : Symbol) → IsOne (record { left = left; right = One a }) → (w : List ℕ) → SymbolMeans a w → Means left.0 w
one_kind left a (IsOne.a_row row _ h is) w m = by row.3 refl is.1 is.2 is.3 is.4
  where
    by : (next : Option ℕ) → row.3 ≡ next → (r : ByteRange) → r.lo ≡ row.1 → r.hi ≡ row.2 → One a ≡ right_with r next → Means left.0 w
    by None e r lo hi f =
        let same : a ≡ Range r = cc in
        row_alone row h left.0 r w is.0 lo hi e (subst (λ z. SymbolMeans z w) same m)
    by (Some n) e r lo hi f = cc

two_kind : (left : nt.Nt) (a b : Symbol) → IsOne (record { left = left; right = Two a b }) → (v w : List ℕ) → SymbolMeans a v → SymbolMeans b w → Means left.0 (v ++ w)
two_kind _ _ _ IsOne.more v w m k = more_text v w m k
two_kind left a b (IsOne.a_row row _ h is) v w m k = by row.3 refl is.1 is.2 is.3 is.4
  where
    by : (next : Option ℕ) → row.3 ≡ next → (r : ByteRange) → r.lo ≡ row.1 → r.hi ≡ row.2 → Two a b ≡ right_with r next → Means left.0 (v ++ w)
    by None e r lo hi f = cc
    by (Some n) e r lo hi f =
        let first : a ≡ Range r = cc in
        let second : b ≡ Nt (record { 0 = n }) = cc in
        row_before row h left.0 n r v w is.0 lo hi e (subst (λ z. SymbolMeans z v) first m) (subst (λ z. SymbolMeans z w) second k)

-- texts as letters
no_letters : (w : List ℕ) → [] ≡ map OfByte w → w ≡ []
no_letters [] e = refl
no_letters (b ∷ w) e = cc

one_letter : (b : ℕ) (w : List ℕ) → OfByte b ∷ [] ≡ map OfByte w → w ≡ b ∷ []
one_letter b [] e = cc
one_letter b (c ∷ []) e = cc
one_letter b (c ∷ d ∷ w) e = cc

no_token : (t : PageToken) (w : List ℕ) → OfToken t ∷ [] ≡ map OfByte w → ⊥
no_token t [] e = cc
no_token t (c ∷ w) e = cc

pub means : (ps : List Production) → AreAll ps → (s : Symbol) (v : List Letter) → Derives ps s v → (w : List ℕ) → v ≡ map OfByte w → SymbolMeans s w
means ps all _ _ (Derives.by_range r b within) w e = (b, within, one_letter b w e)
means ps all _ _ (Derives.by_token t) w e = no_token t w e
means ps all _ _ (Derives.by_empty left has) w e = subst (λ z. Means left.0 z) (sym (no_letters w e)) (empty_in ENDS all_empty left.0 (empty_kind left (all.each (record { left = left; right = Empty }) has)))
means ps all _ _ (Derives.by_one left a v has h) w e = one_kind left a (all.each (record { left = left; right = One a }) has) w (means ps all a v h w e)
means ps all _ _ (Derives.by_two left a b u v has h k) w e =
    let parts = split u v w e in
    subst (λ z. Means left.0 z) (sym parts.is) (two_kind left a b (all.each (record { left = left; right = Two a b }) has) parts.front parts.behind (means ps all a u h parts.front parts.front_is) (means ps all b v k parts.behind parts.behind_is))
