-- When a text is the decimal form of no integer.
use Rattle.std.proofs.Common.{◌≡◌, ℕ, ℤ, pos, negsuc, [], length, Bool, true, false, ◌&&◌, if◌then◌else◌, List, Option, Some, None, Ok, Err, refl, sym, ap, ◌∙◌, subst, nat_eq, arith, w64}
use Rattle.std.specs.Prelude.{FitsSigned}
use Rattle.std.specs.Cmp.{first_so, second_so}
use Rattle.std.specs.Cmp.Lexicographic.{pointwise}
use Rattle.std.specs.Fmt.{signed_decimal}
use Rattle.std.specs.Str.{IsAscii, IsUtf8}
use Rattle.std.specs.Str.Parse.{ParsesSigned, signed_digits_value}
use Rattle.std.proofs.lemmas.Fmt.{decimal_nonempty, IsAscii-signed, parse-signed_decimal}
use Rattle.std.proofs.lemmas.Str.{IsUtf8-from_ascii}
use Rattle.text_base.specs.Exactness.{exact_bytes}
use Rattle.plain_values.specs.Plain.{text_key}
use Rattle.plain_values.specs.Numeric.{is_in_range}
use Rattle.plain_values.specs.Keys.{canonical_integer, canonical_key}
use Rattle.plain_values.proofs.NumeralLemmas.{fits_if}

-- a text that is no decimal form has no canonical integer
pub no_integer : (t : List ℕ) → ((z : ℤ) → FitsSigned w64 z → t ≡ signed_decimal z → ⊥) → None ≡ canonical_integer t
no_integer t apart = by (is_in_range (signed_digits_value 10 t) && pointwise nat_eq (signed_decimal (signed_digits_value 10 t)) t) refl
  where
    by : (b : Bool) → (is_in_range (signed_digits_value 10 t) && pointwise nat_eq (signed_decimal (signed_digits_value 10 t)) t) ≡ b → None ≡ (if b then Some (signed_digits_value 10 t) else None)
    by true e = absurd (apart (signed_digits_value 10 t)
        (fits_if (signed_digits_value 10 t) (first_so (is_in_range (signed_digits_value 10 t)) (pointwise nat_eq (signed_decimal (signed_digits_value 10 t)) t) e))
        (sym (exact_bytes (signed_decimal (signed_digits_value 10 t)) t (second_so (is_in_range (signed_digits_value 10 t)) (pointwise nat_eq (signed_decimal (signed_digits_value 10 t)) t) e))))
    by false e = refl

-- an integer that a text stands for is spelled by it
pub spelled : (t : List ℕ) (z : ℤ) → canonical_integer t ≡ Some z → signed_decimal z ≡ t
spelled t z e = by (is_in_range (signed_digits_value 10 t) && pointwise nat_eq (signed_decimal (signed_digits_value 10 t)) t) refl e
  where
    by : (b : Bool) → (is_in_range (signed_digits_value 10 t) && pointwise nat_eq (signed_decimal (signed_digits_value 10 t)) t) ≡ b → (if b then Some (signed_digits_value 10 t) else None) ≡ Some z → signed_decimal z ≡ t
    by true h g =
        let is : z ≡ signed_digits_value 10 t = cc in
        ap signed_decimal is ∙ exact_bytes (signed_decimal (signed_digits_value 10 t)) t (second_so (is_in_range (signed_digits_value 10 t)) _ h)
    by false h g = cc

pub none_unless_utf8 : (t : List ℕ) → (IsUtf8 t → ⊥) → None ≡ canonical_integer t
none_unless_utf8 t h = no_integer t (λ z fits e. h (IsUtf8-from_ascii t (subst IsAscii (sym e) (IsAscii-signed z fits.sfits))))

pub none_unless_parsed : {E : Type 0} (t : List ℕ) (cause : E) → ParsesSigned w64 10 t (Err cause) → None ≡ canonical_integer t
none_unless_parsed {E} t cause h = no_integer t (λ z fits e. contrary (parse-signed_decimal w64 z t (Err cause) fits fits.sfits e h))
  where
    contrary : {z : ℤ} → Err cause ≡ Ok z → ⊥
    contrary g = cc

empty_decimal : (z : ℤ) → FitsSigned w64 z → [] ≡ signed_decimal z → ⊥
empty_decimal (pos n) fits e = omega (arith, decimal_nonempty n (omega (arith, fits.sfits)), ap length e)
empty_decimal (negsuc n) fits e = cc

pub empty_key : canonical_key [] (canonical_integer []) ≡ text_key []
empty_key = ap (λ (z : Option ℤ). canonical_key [] z) (sym (no_integer [] empty_decimal))
