-- Texts within the limit.
use Rattle.std.proofs.Common.{◌≡◌, ◌≤◌, ℕ, ℤ, Bool, true, false, if◌then◌else◌, nat_le, List, length, Ok, Err, refl, sym, subst, arith}
use Rattle.std.proofs.lemmas.Bool.{leb-true}
use Rattle.plain_values.specs.Plain.{Plain, null, flag, int, text, array}
use Rattle.plain_values.specs.Text.{text_of}
use Rattle.plain_values.specs.Members.{within_length}
use Rattle.plain_values.specs.Numeric.{is_in_range}
use Rattle.plain_values.specs.Lawful.{IsValue, HasValues}
use Rattle.plain_values.specs.declared.fault.Fault.TheVariants.{Long}
use Rattle.plain_values.proofs.NumeralLemmas.{fits_if}
use Rattle.plain_values.proofs.DecimalLemmas.{decimal_short}

pub text_value : (t : List ℕ) → length t ≤ 16777216 → IsValue (text t)
text_value t h = record { parts = h; shallow = omega arith }

pub number_value : (z : ℤ) → is_in_range z ≡ true → IsValue (int z)
number_value z h = record { parts = h; shallow = omega arith }

pub flag_value : (b : Bool) → IsValue (flag b)
flag_value b = record { parts = tt; shallow = omega arith }

pub null_value : IsValue null
null_value = record { parts = tt; shallow = omega arith }

pub text_short : (v : Plain) → HasValues v → length (text_of v) ≤ 16777216
text_short null h = omega arith
text_short (flag false) h = omega arith
text_short (flag true) h = omega arith
text_short (int z) h = omega (arith, decimal_short z (fits_if z h))
text_short (text t) h = h
text_short (array ps) h = omega arith

-- what a test of the length lets through
pub within : (t : List ℕ) (v : Plain) → within_length t ≡ Ok v → (v ≡ text t) × (length t ≤ 16777216)
within t v e = by (nat_le (length t) 16777216) refl e
  where
    by : (b : Bool) → nat_le (length t) 16777216 ≡ b → (if b then Ok (text t) else Err Long) ≡ Ok v → (v ≡ text t) × (length t ≤ 16777216)
    by true h g = (cc, leb-true (length t) 16777216 h)
    by false h g = cc

pub within_value : (t : List ℕ) (v : Plain) → within_length t ≡ Ok v → IsValue v
within_value t v e = let w = within t v e in subst IsValue (sym w.0) (text_value t w.1)
