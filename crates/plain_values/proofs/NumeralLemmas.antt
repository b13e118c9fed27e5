-- Numerals and integers in range, as `parse` speaks of them.
use Rattle.std.proofs.Common.{◌≡◌, ℕ, ℤ, pos, negsuc, ◌^◌, ◌<◌, Bool, true, false, ◌==◌, cond, if◌then◌else◌, nat_lt, List, [], ◌∷◌, length, drop, refl, sym, ◌∙◌, arith, w64}
use Rattle.std.specs.Char.{is_ascii_digit, digit_value}
use Rattle.std.specs.Cmp.{first_so, second_so}
use Rattle.std.specs.Prelude.{FitsSigned}
use Rattle.std.specs.Str.{IsAscii, IsUtf8}
use Rattle.std.specs.Str.Parse.{IsNumeral, AllDigits, without_leading_sign, signed_digits_value}
use Rattle.std.proofs.lemmas.Bool.{ltb-true}
use Rattle.std.proofs.lemmas.Bool.Decides.{nat_tests}
use Rattle.std.proofs.lemmas.Str.{IsUtf8-from_ascii}
use Rattle.std.proofs.lemmas.Str.Ascii.{IsAscii-nil, IsAscii-cons}
use Rattle.plain_values.specs.Numeric.{are_digits, is_numeral, is_in_range, integer_in_range, is_unsigned_number, numeric_body}
use Rattle.plain_values.specs.declared.numeric.Numeric.TheVariants.{Integer, Float, Other}

digit_small : (d : ℕ) → is_ascii_digit d ≡ true → d < 128
digit_small d h = grind (arith, nat_tests)

digit_below : (d : ℕ) → is_ascii_digit d ≡ true → digit_value d < 10
digit_below d h = grind (arith, nat_tests)

digits_ascii : (ds : List ℕ) → are_digits ds ≡ true → IsAscii ds
digits_ascii [] h = IsAscii-nil
digits_ascii (d ∷ ds) h = IsAscii-cons d ds (digit_small d (first_so (is_ascii_digit d) (are_digits ds) h)) (digits_ascii ds (second_so (is_ascii_digit d) (are_digits ds) h))

all_digits : (ds : List ℕ) → are_digits ds ≡ true → AllDigits 10 ds
all_digits [] h = tt
all_digits (d ∷ ds) h = (digit_below d (first_so (is_ascii_digit d) (are_digits ds) h), all_digits ds (second_so (is_ascii_digit d) (are_digits ds) h))

pub numeral_is : (ds : List ℕ) → is_numeral ds ≡ true → IsNumeral 10 ds
numeral_is ds h = (ltb-true 0 (length ds) (first_so (nat_lt 0 (length ds)) (are_digits ds) h), all_digits ds (second_so (nat_lt 0 (length ds)) (are_digits ds) h))

signed_ascii : (body : List ℕ) → IsAscii (without_leading_sign body) → IsAscii body
signed_ascii [] h = IsAscii-nil
signed_ascii (b ∷ bs) h = by (b == 45) (b == 43) refl refl h
  where
    by : (v w : Bool) → (b == 45) ≡ v → (b == 43) ≡ w → IsAscii (cond v bs (drop (cond w 1 0) (b ∷ bs))) → IsAscii (b ∷ bs)
    by true w e f g = IsAscii-cons b bs (grind (arith, nat_tests)) g
    by false true e f g = IsAscii-cons b bs (grind (arith, nat_tests)) g
    by false false e f g = g

pub numeral_utf8 : (body : List ℕ) → is_numeral (without_leading_sign body) ≡ true → IsUtf8 body
numeral_utf8 body h = IsUtf8-from_ascii body (signed_ascii body (digits_ascii (without_leading_sign body) (second_so (nat_lt 0 (length (without_leading_sign body))) (are_digits (without_leading_sign body)) h)))

pub fits_if : (z : ℤ) → is_in_range z ≡ true → FitsSigned w64 z
fits_if (pos n) h = record { sfits = ltb-true n (2 ^ 63) h }
fits_if (negsuc n) h = record { sfits = ltb-true n (2 ^ 63) h }

pub float_if : (body : List ℕ) → is_numeral (without_leading_sign body) ≡ true → ¬ (IsNumeral 10 (without_leading_sign body) × FitsSigned w64 (signed_digits_value 10 body)) → Float ≡ numeric_body body
float_if body h apart = sym (by_test (is_numeral (without_leading_sign body)) h ∙ by (is_in_range (signed_digits_value 10 body)) (fits_if (signed_digits_value 10 body)))
  where
    by_test : (b : Bool) → b ≡ true → (if b then integer_in_range (signed_digits_value 10 body) else (if is_unsigned_number (without_leading_sign body) then Float else Other)) ≡ integer_in_range (signed_digits_value 10 body)
    by_test true e = refl
    by_test false e = cc

    by : (b : Bool) → (b ≡ true → FitsSigned w64 (signed_digits_value 10 body)) → (if b then Integer (signed_digits_value 10 body) else Float) ≡ Float
    by true f = absurd (apart (numeral_is (without_leading_sign body) h, f refl))
    by false f = refl
