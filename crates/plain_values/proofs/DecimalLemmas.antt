-- How long the decimal form of an integer is, and integers in range.
use Rattle.std.proofs.Common.{◌≡◌, ◌≤◌, ℤ, pos, negsuc, length, Bool, true, false, if◌then◌else◌, Ok, Err, refl, arith, w64}
use Rattle.std.proofs.lemmas.Bool.Decides.{nat_tests}
use Rattle.std.specs.Fmt.{signed_decimal}
use Rattle.std.specs.Prelude.{FitsSigned}
use Rattle.std.proofs.lemmas.Fmt.{length_signed_le}
use Rattle.plain_values.specs.Numeric.{is_in_range}
use Rattle.plain_values.specs.Arithmetic.{in_64_bits}
use Rattle.plain_values.specs.declared.fault.Fault.TheVariants.{Float}
use Rattle.plain_values.proofs.NumeralLemmas.{fits_if}

pub decimal_short : (z : ℤ) → FitsSigned w64 z → length (signed_decimal z) ≤ 20
decimal_short (pos n) f = length_signed_le 19 (pos n) (omega (arith, f.sfits)) (omega (arith, f.sfits))
decimal_short (negsuc n) f = length_signed_le 19 (negsuc n) (omega (arith, f.sfits)) (omega (arith, f.sfits))

in_range : (z : ℤ) → FitsSigned w64 z → is_in_range z ≡ true
in_range (pos n) f = let low = f.sfits in grind (arith, nat_tests, low)
in_range (negsuc n) f = let low = f.sfits in grind (arith, nat_tests, low)

pub in_64_some : (z : ℤ) → FitsSigned w64 z → in_64_bits z ≡ Ok z
in_64_some z f = rw (in_range z f) refl

pub in_64_none : (z : ℤ) → (FitsSigned w64 z → ⊥) → in_64_bits z ≡ Err Float
in_64_none z apart = by (is_in_range z) (fits_if z)
  where
    by : (b : Bool) → (b ≡ true → FitsSigned w64 z) → (if b then Ok z else Err Float) ≡ Err Float
    by true f = absurd (apart (f refl))
    by false f = refl
