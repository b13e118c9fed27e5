-- The texts that read as numbers are those of the manual's grammar.
use Rattle.std.proofs.Common.{◌≡◌, ℕ, ℤ, Bool, true, false, if◌then◌else◌, ◌⊎◌, inl, inr, ⊎_elim, List, [], ◌∷◌, ◌++◌, append_assoc, refl, sym, ◌∙◌, ap, arith}
use Rattle.std.specs.Char.{is_ascii_digit}
use Rattle.std.specs.Cmp.{first_so, second_so}
use Rattle.std.specs.List.{list_all}
use Rattle.std.specs.Str.Parse.{without_leading_sign, signed_digits_value}
use Rattle.std.proofs.lemmas.Bool.Decides.{nat_tests}
use Rattle.std.proofs.lemmas.List.Folds.{list_all-append}
use Rattle.plain_values.specs.Numeric.{is_dot, is_exponent_mark, are_digits, is_numeral, is_unsigned_number, is_in_range, numeric_body, numeric, trimmed}
use Rattle.plain_values.specs.Grammar.{IsSign, IsLnum, IsDnum, IsMantissa, IsExponentDnum, IsNumberText, IsIntegerText, IsFloatText}
use Rattle.plain_values.specs.declared.numeric.Numeric.{Numeric}
use Rattle.plain_values.specs.declared.numeric.Numeric.TheVariants.{Integer, Float, Other}
use Rattle.plain_values.proofs.TrimLemmas.{AreShown, is_shown, trimmed-padded, around-trimmed}
use Rattle.plain_values.proofs.SignLemmas.{signed_parts, is_unsigned, sign_off, digit_unsigned, digit_no_dot, digit_no_mark, lnum_digits, lnum_unsigned}
use Rattle.plain_values.proofs.NumberLemmas.{both_true, front_digits, back_digits, unsigned_from, exponent_to, mantissa_unsigned_number, exponent_mark_in, dnum_dot, not_numeral}

-- no byte of a number is a blank
digit_shown : (d : ℕ) → is_ascii_digit d ≡ true → is_shown d ≡ true
digit_shown d h = grind (arith, nat_tests)

mark_shown : (b : ℕ) → is_exponent_mark b ≡ true → is_shown b ≡ true
mark_shown b h = grind (arith, nat_tests)

digits_shown : (ds : List ℕ) → are_digits ds ≡ true → AreShown ds
digits_shown [] h = refl
digits_shown (d ∷ ds) h = both_true (is_shown d) (list_all is_shown ds) (digit_shown d (first_so (is_ascii_digit d) (are_digits ds) h)) (digits_shown ds (second_so (is_ascii_digit d) (are_digits ds) h))

shown_append : (xs ys : List ℕ) → AreShown xs → AreShown ys → AreShown (xs ++ ys)
shown_append xs ys h g = list_all-append is_shown xs ys ∙ both_true (list_all is_shown xs) (list_all is_shown ys) h g

sign_shown : (s : List ℕ) → IsSign s → AreShown s
sign_shown s h = ⊎_elim (λ e. ap (list_all is_shown) e) (λ t. ⊎_elim (λ e. ap (list_all is_shown) e) (λ e. ap (list_all is_shown) e) t) h

lnum_shown : (ds : List ℕ) → IsLnum ds → AreShown ds
lnum_shown ds h = digits_shown ds (lnum_digits ds h)

dnum_shown : (m : List ℕ) → IsDnum m → AreShown m
dnum_shown m d =
    let ds = lnum_digits (d.front ++ d.back) d.digits in
    ap (list_all is_shown) d.parts ∙ shown_append d.front (46 ∷ d.back) (digits_shown d.front (front_digits d.front d.back ds)) (digits_shown d.back (back_digits d.front d.back ds))

mantissa_shown : (m : List ℕ) → IsMantissa m → AreShown m
mantissa_shown m h = ⊎_elim (lnum_shown m) (dnum_shown m) h

exponent_shown : (u : List ℕ) → IsExponentDnum u → AreShown u
exponent_shown u x =
    ap (list_all is_shown) x.parts
    ∙ shown_append x.mantissa (x.mark ∷ (x.sign ++ x.digits)) (mantissa_shown x.mantissa x.before)
    (both_true (is_shown x.mark) (list_all is_shown (x.sign ++ x.digits)) (mark_shown x.mark x.marked) (shown_append x.sign x.digits (sign_shown x.sign x.signed) (lnum_shown x.digits x.behind)))

-- no number begins with a sign
dotted_unsigned : (front back : List ℕ) → are_digits front ≡ true → is_unsigned (front ++ 46 ∷ back) ≡ true
dotted_unsigned [] back h = refl
dotted_unsigned (d ∷ front) back h = digit_unsigned d (first_so (is_ascii_digit d) (are_digits front) h)

dnum_unsigned : (m ys : List ℕ) → IsDnum m → is_unsigned (m ++ ys) ≡ true
dnum_unsigned m ys d =
    ap (λ (xs : List ℕ). is_unsigned (xs ++ ys)) d.parts
    ∙ ap is_unsigned (append_assoc d.front (46 ∷ d.back) ys)
    ∙ dotted_unsigned d.front (d.back ++ ys) (front_digits d.front d.back (lnum_digits (d.front ++ d.back) d.digits))

lnum_first : (m ys : List ℕ) → IsLnum m → is_unsigned (m ++ ys) ≡ true
lnum_first [] ys h = cc
lnum_first (d ∷ ds) ys h = digit_unsigned d (first_so (is_ascii_digit d) (are_digits ds) (lnum_digits (d ∷ ds) h))

exponent_unsigned : (u : List ℕ) → IsExponentDnum u → is_unsigned u ≡ true
exponent_unsigned u x = ap is_unsigned x.parts ∙ ⊎_elim (λ l. lnum_first x.mantissa (x.mark ∷ (x.sign ++ x.digits)) l) (λ d. dnum_unsigned x.mantissa (x.mark ∷ (x.sign ++ x.digits)) d) x.before

number_unsigned : (u : List ℕ) → IsDnum u ⊎ IsExponentDnum u → is_unsigned u ≡ true
number_unsigned u h = ⊎_elim (λ d. sym (ap is_unsigned (nothing u)) ∙ dnum_unsigned u [] d) (exponent_unsigned u) h
  where
    nothing : (xs : List ℕ) → xs ++ [] ≡ xs
    nothing [] = refl
    nothing (x ∷ xs) = ap (λ (ys : List ℕ). x ∷ ys) (nothing xs)

-- what reading a text of the grammar comes to
body_read : (Rest : List ℕ → Type 0) (text body : List ℕ) (t : IsNumberText Rest text body) → AreShown t.rest → numeric text ≡ numeric_body body
body_read Rest text body t s =
    ap numeric_body (ap trimmed t.parts ∙ trimmed-padded t.blanks body t.more_blanks t.before (ap (list_all is_shown) t.signed_parts ∙ shown_append t.sign t.rest (sign_shown t.sign t.signed) s) t.behind)

rest_read : (Rest : List ℕ → Type 0) (text body : List ℕ) (t : IsNumberText Rest text body) → is_unsigned t.rest ≡ true → without_leading_sign body ≡ t.rest
rest_read Rest text body t h = ap without_leading_sign t.signed_parts ∙ sign_off t.sign t.rest t.signed h

text_of_parts : (Rest : List ℕ → Type 0) (text : List ℕ) → Rest (without_leading_sign (trimmed text)) → IsNumberText Rest text (trimmed text)
text_of_parts Rest text h =
    let a = around-trimmed text in
    let s = signed_parts (trimmed text) in
    record { blanks = a.0; sign = s.0; rest = without_leading_sign (trimmed text); more_blanks = a.1; parts = a.4; signed_parts = s.2; before = a.2; behind = a.3; signed = s.1; asked = h }

abbrev read_as : Bool → Bool → Bool → ℤ → Numeric
read_as v w x z = if v then (if w then Integer z else Float) else (if x then Float else Other)

integer_read : (v w x : Bool) (y z : ℤ) → read_as v w x y ≡ Integer z → (v ≡ true) × (w ≡ true) × (y ≡ z)
integer_read true true x y z h = (refl, refl, cc)
integer_read true false x y z h = cc
integer_read false w true y z h = cc
integer_read false w false y z h = cc

float_read : (v w x : Bool) (y : ℤ) → read_as v w x y ≡ Float → ((v ≡ true) × (w ≡ false)) ⊎ ((v ≡ false) × (x ≡ true))
float_read true true x y h = cc
float_read true false x y h = inl (refl, refl)
float_read false w true y h = inr (refl, refl)
float_read false w false y h = cc

as_integer : (v w x : Bool) (y : ℤ) → v ≡ true → w ≡ true → read_as v w x y ≡ Integer y
as_integer true true x y e f = refl
as_integer true false x y e f = cc
as_integer false w x y e f = cc

as_long : (v w x : Bool) (y : ℤ) → v ≡ true → w ≡ false → read_as v w x y ≡ Float
as_long true true x y e f = cc
as_long true false x y e f = refl
as_long false w x y e f = cc

as_float : (v w x : Bool) (y : ℤ) → v ≡ false → x ≡ true → read_as v w x y ≡ Float
as_float true w x y e f = cc
as_float false w true y e f = refl
as_float false w false y e f = cc

contrary : {v : Bool} → v ≡ true → v ≡ false → ⊥
contrary e f = cc

abbrev tests : List ℕ → Numeric
tests body = read_as (is_numeral (without_leading_sign body)) (is_in_range (signed_digits_value 10 body)) (is_unsigned_number (without_leading_sign body)) (signed_digits_value 10 body)

pub integer_from : (text : List ℕ) (z : ℤ) → numeric text ≡ Integer z → IsIntegerText text z × (is_in_range z ≡ true)
integer_from text z h =
    let body : List ℕ = trimmed text in
    let r = integer_read (is_numeral (without_leading_sign body)) (is_in_range (signed_digits_value 10 body)) (is_unsigned_number (without_leading_sign body)) (signed_digits_value 10 body) z h in
    ((body, text_of_parts IsLnum text r.0, sym r.2), ap is_in_range (sym r.2) ∙ r.1)

pub integer_to : (text : List ℕ) (z : ℤ) → IsIntegerText text z → is_in_range z ≡ true → numeric text ≡ Integer z
integer_to text z i h =
    body_read IsLnum text i.0 i.1 (lnum_shown i.1.rest i.1.asked)
    ∙ as_integer (is_numeral (without_leading_sign i.0)) (is_in_range (signed_digits_value 10 i.0)) (is_unsigned_number (without_leading_sign i.0)) (signed_digits_value 10 i.0)
    (ap is_numeral (rest_read IsLnum text i.0 i.1 (lnum_unsigned i.1.rest i.1.asked)) ∙ i.1.asked)
    (ap is_in_range (sym i.2) ∙ h)
    ∙ ap (λ (y : ℤ). Integer y) (sym i.2)

abbrev IsFraction : List ℕ → Type 0
IsFraction u = IsDnum u ⊎ IsExponentDnum u

fraction_from : (u : List ℕ) → is_numeral u ≡ false → is_unsigned_number u ≡ true → IsFraction u
fraction_from u h g = ⊎_elim (λ m. ⊎_elim (λ l. absurd (contrary l h)) (λ d. inl d) m) (λ x. inr x) (unsigned_from u g)

pub float_from : (text : List ℕ) → numeric text ≡ Float → IsFloatText text ⊎ ((z : ℤ) × IsIntegerText text z × (is_in_range z ≡ false))
float_from text h =
    let body : List ℕ = trimmed text in
    ⊎_elim
    (λ r. inr (signed_digits_value 10 body, (body, text_of_parts IsLnum text r.0, refl), r.1))
    (λ r. inl (body, text_of_parts IsFraction text (fraction_from (without_leading_sign body) r.0 r.1)))
    (float_read (is_numeral (without_leading_sign body)) (is_in_range (signed_digits_value 10 body)) (is_unsigned_number (without_leading_sign body)) (signed_digits_value 10 body) h)

fraction_shown : (u : List ℕ) → IsFraction u → AreShown u
fraction_shown u h = ⊎_elim (dnum_shown u) (exponent_shown u) h

fraction_no_numeral : (u : List ℕ) → IsFraction u → is_numeral u ≡ false
fraction_no_numeral u h = ⊎_elim (λ d. not_numeral is_dot digit_no_dot u (dnum_dot u d)) (λ x. not_numeral is_exponent_mark digit_no_mark u (exponent_mark_in u x)) h

fraction_number : (u : List ℕ) → IsFraction u → is_unsigned_number u ≡ true
fraction_number u h = ⊎_elim (λ d. mantissa_unsigned_number u (inr d)) (exponent_to u) h

pub fraction_to : (text : List ℕ) → IsFloatText text → numeric text ≡ Float
fraction_to text i =
    let u = rest_read IsFraction text i.0 i.1 (number_unsigned i.1.rest i.1.asked) in
    body_read IsFraction text i.0 i.1 (fraction_shown i.1.rest i.1.asked)
    ∙ as_float (is_numeral (without_leading_sign i.0)) (is_in_range (signed_digits_value 10 i.0)) (is_unsigned_number (without_leading_sign i.0)) (signed_digits_value 10 i.0)
    (ap is_numeral u ∙ fraction_no_numeral i.1.rest i.1.asked)
    (ap is_unsigned_number u ∙ fraction_number i.1.rest i.1.asked)

pub long_to : (text : List ℕ) (z : ℤ) → IsIntegerText text z → is_in_range z ≡ false → numeric text ≡ Float
long_to text z i h =
    body_read IsLnum text i.0 i.1 (lnum_shown i.1.rest i.1.asked)
    ∙ as_long (is_numeral (without_leading_sign i.0)) (is_in_range (signed_digits_value 10 i.0)) (is_unsigned_number (without_leading_sign i.0)) (signed_digits_value 10 i.0)
    (ap is_numeral (rest_read IsLnum text i.0 i.1 (lnum_unsigned i.1.rest i.1.asked)) ∙ i.1.asked)
    (ap is_in_range (sym i.2) ∙ h)
