-- Numbers without a sign: the tests say what the grammar says.
use Rattle.std.proofs.Common.{◌≡◌, ℕ, Bool, true, false, not, ◌&&◌, ◌||◌, ◌⊎◌, inl, inr, ⊎_elim, List, [], ◌∷◌, ◌++◌, append-nil, refl, sym, ◌∙◌, ap, arith}
use Rattle.std.specs.Char.{is_ascii_digit}
use Rattle.std.specs.Cmp.{first_so, second_so}
use Rattle.std.specs.List.{list_any, before_first, after_first}
use Rattle.std.specs.Str.Parse.{without_leading_sign}
use Rattle.std.proofs.lemmas.Bool.Decides.{nat_tests}
use Rattle.std.proofs.lemmas.List.Folds.{list_all-append}
use Rattle.plain_values.specs.Numeric.{is_dot, is_exponent_mark, are_digits, is_numeral, is_mantissa, is_unsigned_number}
use Rattle.plain_values.specs.Grammar.{IsLnum, IsDnum, IsMantissa, IsExponentDnum}
use Rattle.plain_values.proofs.PartsLemmas.{whole_if_nowhere}
use Rattle.plain_values.proofs.SignLemmas.{signed_parts, sign_off, digits_without, digit_no_dot, digit_no_mark, lnum_digits, lnum_unsigned, before-behind, after-behind, any_behind, cut}

dot_is : (b : ℕ) → is_dot b ≡ true → b ≡ 46
dot_is b h = grind (arith, nat_tests)

pub both_true : (a b : Bool) → a ≡ true → b ≡ true → (a && b) ≡ true
both_true true true e f = refl
both_true true false e f = f
both_true false b e f = e

none_append : (test : ℕ → Bool) (xs ys : List ℕ) → list_any test xs ≡ false → list_any test ys ≡ false → list_any test (xs ++ ys) ≡ false
none_append test [] ys h g = g
none_append test (x ∷ xs) ys h g = by (test x) h (none_append test xs ys)
  where
    by : (v : Bool) → (v || list_any test xs) ≡ false → (list_any test xs ≡ false → list_any test ys ≡ false → list_any test (xs ++ ys) ≡ false) → (v || list_any test (xs ++ ys)) ≡ false
    by true e rest = cc
    by false e rest = rest e g

-- digits in two parts
pub front_digits : (front back : List ℕ) → are_digits (front ++ back) ≡ true → are_digits front ≡ true
front_digits front back h = first_so (are_digits front) (are_digits back) (sym (list_all-append is_ascii_digit front back) ∙ h)

pub back_digits : (front back : List ℕ) → are_digits (front ++ back) ≡ true → are_digits back ≡ true
back_digits front back h = second_so (are_digits front) (are_digits back) (sym (list_all-append is_ascii_digit front back) ∙ h)

pub mantissa_from : (m : List ℕ) → is_mantissa m ≡ true → IsMantissa m
mantissa_from m h = by (list_any is_dot m) refl
  where
    by : (v : Bool) → list_any is_dot m ≡ v → IsMantissa m
    by true e =
        let c = cut is_dot m e in
        inr record {
          front = before_first is_dot m;
          back = after_first is_dot m;
          parts = c.2 ∙ ap (λ (b : ℕ). before_first is_dot m ++ b ∷ after_first is_dot m) (dot_is c.0 c.1);
          digits = h;
        }
    by false e =
        let w = whole_if_nowhere is_dot m e in
        inl (ap is_numeral (sym (ap (λ (xs : List ℕ). xs ++ after_first is_dot m) w.before ∙ ap (λ (xs : List ℕ). m ++ xs) w.after ∙ append-nil m)) ∙ h)

pub mantissa_to : (m : List ℕ) → IsMantissa m → is_mantissa m ≡ true
mantissa_to m h = ⊎_elim whole dotted h
  where
    whole : IsLnum m → is_mantissa m ≡ true
    whole l =
        let w = whole_if_nowhere is_dot m (digits_without is_dot digit_no_dot m (lnum_digits m l)) in
        ap is_numeral (ap (λ (xs : List ℕ). xs ++ after_first is_dot m) w.before ∙ ap (λ (xs : List ℕ). m ++ xs) w.after ∙ append-nil m) ∙ l

    dotted : IsDnum m → is_mantissa m ≡ true
    dotted d =
        let f : list_any is_dot d.front ≡ false = digits_without is_dot digit_no_dot d.front (front_digits d.front d.back (lnum_digits (d.front ++ d.back) d.digits)) in
        ap is_mantissa d.parts
        ∙ ap (λ (xs : List ℕ). is_numeral (xs ++ after_first is_dot (d.front ++ 46 ∷ d.back))) (before-behind is_dot d.front 46 d.back f refl)
        ∙ ap (λ (xs : List ℕ). is_numeral (d.front ++ xs)) (after-behind is_dot d.front 46 d.back f refl)
        ∙ d.digits

pub mantissa_no_mark : (m : List ℕ) → IsMantissa m → list_any is_exponent_mark m ≡ false
mantissa_no_mark m h = ⊎_elim (λ l. digits_without is_exponent_mark digit_no_mark m (lnum_digits m l)) dotted h
  where
    dotted : IsDnum m → list_any is_exponent_mark m ≡ false
    dotted d =
        let f = digits_without is_exponent_mark digit_no_mark d.front (front_digits d.front d.back (lnum_digits (d.front ++ d.back) d.digits)) in
        let b = digits_without is_exponent_mark digit_no_mark d.back (back_digits d.front d.back (lnum_digits (d.front ++ d.back) d.digits)) in
        ap (list_any is_exponent_mark) d.parts ∙ none_append is_exponent_mark d.front (46 ∷ d.back) f b

pub unsigned_from : (u : List ℕ) → is_unsigned_number u ≡ true → IsMantissa u ⊎ IsExponentDnum u
unsigned_from u h = by (list_any is_exponent_mark u) refl (second_so (is_mantissa (before_first is_exponent_mark u)) _ h)
  where
    front : is_mantissa (before_first is_exponent_mark u) ≡ true
    front = first_so (is_mantissa (before_first is_exponent_mark u)) (not (list_any is_exponent_mark u) || is_numeral (without_leading_sign (after_first is_exponent_mark u))) h

    by : (v : Bool) → list_any is_exponent_mark u ≡ v → (not v || is_numeral (without_leading_sign (after_first is_exponent_mark u))) ≡ true → IsMantissa u ⊎ IsExponentDnum u
    by true e g =
        let c = cut is_exponent_mark u e in
        let s = signed_parts (after_first is_exponent_mark u) in
        inr record {
          mantissa = before_first is_exponent_mark u;
          mark = c.0;
          sign = s.0;
          digits = without_leading_sign (after_first is_exponent_mark u);
          parts = c.2 ∙ ap (λ (xs : List ℕ). before_first is_exponent_mark u ++ c.0 ∷ xs) s.2;
          before = mantissa_from (before_first is_exponent_mark u) front;
          marked = c.1;
          signed = s.1;
          behind = g;
        }
    by false e g =
        let w = whole_if_nowhere is_exponent_mark u e in
        inl (mantissa_from u (ap is_mantissa (sym w.before) ∙ front))

pub exponent_mark_in : (u : List ℕ) → IsExponentDnum u → list_any is_exponent_mark u ≡ true
exponent_mark_in u x = ap (list_any is_exponent_mark) x.parts ∙ any_behind is_exponent_mark x.mantissa x.mark (x.sign ++ x.digits) x.marked

pub exponent_to : (u : List ℕ) → IsExponentDnum u → is_unsigned_number u ≡ true
exponent_to u x =
    let m : list_any is_exponent_mark x.mantissa ≡ false = mantissa_no_mark x.mantissa x.before in
    let front : before_first is_exponent_mark u ≡ x.mantissa = ap (before_first is_exponent_mark) x.parts ∙ before-behind is_exponent_mark x.mantissa x.mark (x.sign ++ x.digits) m x.marked in
    let back : after_first is_exponent_mark u ≡ x.sign ++ x.digits = ap (after_first is_exponent_mark) x.parts ∙ after-behind is_exponent_mark x.mantissa x.mark (x.sign ++ x.digits) m x.marked in
    both_true (is_mantissa (before_first is_exponent_mark u)) (not (list_any is_exponent_mark u) || is_numeral (without_leading_sign (after_first is_exponent_mark u)))
    (ap is_mantissa front ∙ mantissa_to x.mantissa x.before)
    (by (list_any is_exponent_mark u) (ap (λ (xs : List ℕ). is_numeral (without_leading_sign xs)) back ∙ ap is_numeral (sign_off x.sign x.digits x.signed (lnum_unsigned x.digits x.behind)) ∙ x.behind))
  where
    by : (v : Bool) → is_numeral (without_leading_sign (after_first is_exponent_mark u)) ≡ true → (not v || is_numeral (without_leading_sign (after_first is_exponent_mark u))) ≡ true
    by true e = e
    by false e = refl

pub mantissa_unsigned_number : (u : List ℕ) → IsMantissa u → is_unsigned_number u ≡ true
mantissa_unsigned_number u m =
    let w = whole_if_nowhere is_exponent_mark u (mantissa_no_mark u m) in
    both_true (is_mantissa (before_first is_exponent_mark u)) (not (list_any is_exponent_mark u) || is_numeral (without_leading_sign (after_first is_exponent_mark u)))
    (ap is_mantissa w.before ∙ mantissa_to u m)
    (ap (λ (v : Bool). not v || is_numeral (without_leading_sign (after_first is_exponent_mark u))) w.nowhere)

-- a numeral holds only digits
pub not_numeral : (test : ℕ → Bool) → ((d : ℕ) → is_ascii_digit d ≡ true → test d ≡ false) → (u : List ℕ) → list_any test u ≡ true → is_numeral u ≡ false
not_numeral test apart u h = by (is_numeral u) refl
  where
    contrary : {v : Bool} → v ≡ true → v ≡ false → ⊥
    contrary e f = cc

    by : (v : Bool) → is_numeral u ≡ v → v ≡ false
    by true e = absurd (contrary h (digits_without test apart u (lnum_digits u e)))
    by false e = refl

pub dnum_dot : (m : List ℕ) → IsDnum m → list_any is_dot m ≡ true
dnum_dot m d = ap (list_any is_dot) d.parts ∙ any_behind is_dot d.front 46 d.back refl
