-- The decimal form of an integer is a minus or nothing, and digits.
use Rattle.std.proofs.Common.{◌≡◌, inl, inr, ℕ, suc, ◌+◌, ◌%◌, ◌<◌, ◌^◌, ℤ, pos, negsuc, Bool, true, false, ◌&&◌, nat_lt, List, [], ◌∷◌, ◌++◌, length, refl, sym, ◌∙◌, ap, arith, length-append}
use Rattle.std.proofs.lemmas.Bool.Decides.{nat_tests}
use Rattle.std.proofs.lemmas.Bool.{ltb-true, lt-ltb}
use Rattle.std.proofs.lemmas.Fmt.{decimal_by_steps}
use Rattle.std.specs.Char.{is_ascii_digit}
use Rattle.std.specs.Fmt.{decimal, signed_decimal}
use Rattle.plain_values.specs.Numeric.{is_in_range, is_numeral, are_digits}
use Rattle.function_laws.specs.Numeral.{IsSignedNumeral}

digit_is : (k : ℕ) → k < 10 → is_ascii_digit (48 + k) ≡ true
digit_is k h = grind (arith, nat_tests, h)

one_more : (ds : List ℕ) (d : ℕ) → are_digits ds ≡ true → is_ascii_digit d ≡ true → are_digits (ds ++ d ∷ []) ≡ true
one_more [] d h g = ap (λ (b : Bool). b && true) g
one_more (x ∷ xs) d h g = by (is_ascii_digit x) (one_more xs d) h
  where
    by : (b : Bool) → (are_digits xs ≡ true → is_ascii_digit d ≡ true → are_digits (xs ++ d ∷ []) ≡ true) → (b && are_digits xs) ≡ true → (b && are_digits (xs ++ d ∷ [])) ≡ true
    by true rest e = rest e g
    by false rest e = cc

are : (n : ℕ) → n < 2 ^ 64 → (0 < length (decimal n)) × (are_digits (decimal n) ≡ true)
are = decimal_by_steps (λ m ds. (0 < length ds) × (are_digits ds ≡ true))
    (λ m l. (omega arith, ap (λ (b : Bool). b && true) (digit_is m l)))
    (λ m ds l h. (omega (arith, length-append ds ((48 + m % 10) ∷ [])), one_more ds (48 + m % 10) h.1 (digit_is (m % 10) (omega arith))))

numeral : (n : ℕ) → n < 2 ^ 64 → is_numeral (decimal n) ≡ true
numeral n h = let is = are n h in ap (λ (b : Bool). b && are_digits (decimal n)) (lt-ltb 0 (length (decimal n)) is.0) ∙ is.1

pub signed : (z : ℤ) → is_in_range z ≡ true → IsSignedNumeral (signed_decimal z)
signed (pos n) h = let low = ltb-true n (2 ^ 63) h in record { sign = []; digits = decimal n; parts = refl; signed = inl refl; numeral = numeral n (omega (arith, low)) }
signed (negsuc n) h = let low = ltb-true n (2 ^ 63) h in record { sign = 45 ∷ []; digits = decimal (suc n); parts = refl; signed = inr refl; numeral = numeral (suc n) (omega (arith, low)) }
