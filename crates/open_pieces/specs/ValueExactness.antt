-- Equality of open references and values is exact.
use Rattle.std.specs.Prelude.{◌≡◌, ℕ, Bool, true, List, refl}
use Rattle.std.proofs.Common.{ap}
use Rattle.std.proofs.lemmas.Map.Views.{exact_unsigned_eq}
use Rattle.text_base.specs.Exactness.{exact_bytes}
use Rattle.open_pieces.specs.Lists.{exact_bool, both}
use Rattle.open_pieces.specs.declared.value.OpenReference.{OpenReference}
use Rattle.open_pieces.specs.declared.value.OpenReference.TheVariants as reference
use Rattle.open_pieces.specs.contracts.value.OpenReferencePartialEq.TheImpl as references
use Rattle.open_pieces.specs.declared.value.OpenValue.{OpenValue}
use Rattle.open_pieces.specs.declared.value.OpenValue.TheVariants as value
use Rattle.open_pieces.specs.contracts.value.OpenValuePartialEq.TheImpl as values

exact_reference_entity : (a0 : List ℕ) (q : OpenReference) → (references.ghosts).eq (reference.Entity a0) q ≡ true → reference.Entity a0 ≡ q
exact_reference_entity a0 (reference.Entity b0) e = ap (λ (z : List ℕ). reference.Entity z) (exact_bytes a0 b0 e)
exact_reference_entity a0 reference.Number e = cc
exact_reference_entity a0 (reference.Decimal b0) e = cc
exact_reference_entity a0 reference.HexadecimalBegin e = cc
exact_reference_entity a0 (reference.Hexadecimal b0) e = cc

exact_reference_number : (q : OpenReference) → (references.ghosts).eq reference.Number q ≡ true → reference.Number ≡ q
exact_reference_number (reference.Entity b0) e = cc
exact_reference_number reference.Number e = refl
exact_reference_number (reference.Decimal b0) e = cc
exact_reference_number reference.HexadecimalBegin e = cc
exact_reference_number (reference.Hexadecimal b0) e = cc

exact_reference_decimal : (a0 : ℕ) (q : OpenReference) → (references.ghosts).eq (reference.Decimal a0) q ≡ true → reference.Decimal a0 ≡ q
exact_reference_decimal a0 (reference.Entity b0) e = cc
exact_reference_decimal a0 reference.Number e = cc
exact_reference_decimal a0 (reference.Decimal b0) e = ap (λ (z : ℕ). reference.Decimal z) (exact_unsigned_eq a0 b0 e)
exact_reference_decimal a0 reference.HexadecimalBegin e = cc
exact_reference_decimal a0 (reference.Hexadecimal b0) e = cc

exact_reference_hexadecimal_begin : (q : OpenReference) → (references.ghosts).eq reference.HexadecimalBegin q ≡ true
    → reference.HexadecimalBegin ≡ q
exact_reference_hexadecimal_begin (reference.Entity b0) e = cc
exact_reference_hexadecimal_begin reference.Number e = cc
exact_reference_hexadecimal_begin (reference.Decimal b0) e = cc
exact_reference_hexadecimal_begin reference.HexadecimalBegin e = refl
exact_reference_hexadecimal_begin (reference.Hexadecimal b0) e = cc

exact_reference_hexadecimal : (a0 : ℕ) (q : OpenReference) → (references.ghosts).eq (reference.Hexadecimal a0) q ≡ true
    → reference.Hexadecimal a0 ≡ q
exact_reference_hexadecimal a0 (reference.Entity b0) e = cc
exact_reference_hexadecimal a0 reference.Number e = cc
exact_reference_hexadecimal a0 (reference.Decimal b0) e = cc
exact_reference_hexadecimal a0 reference.HexadecimalBegin e = cc
exact_reference_hexadecimal a0 (reference.Hexadecimal b0) e = ap (λ (z : ℕ). reference.Hexadecimal z) (exact_unsigned_eq a0 b0 e)

-- open references that are found equal are one
pub exact_reference : (a b : OpenReference) → (references.ghosts).eq a b ≡ true → a ≡ b
exact_reference (reference.Entity a0) q e = exact_reference_entity a0 q e
exact_reference reference.Number q e = exact_reference_number q e
exact_reference (reference.Decimal a0) q e = exact_reference_decimal a0 q e
exact_reference reference.HexadecimalBegin q e = exact_reference_hexadecimal_begin q e
exact_reference (reference.Hexadecimal a0) q e = exact_reference_hexadecimal a0 q e

exact_value_text : (q : OpenValue) → (values.ghosts).eq value.Text q ≡ true → value.Text ≡ q
exact_value_text value.Text e = refl
exact_value_text (value.Reference b0) e = cc
exact_value_text (value.Fixed b0) e = cc
exact_value_text (value.Choice b0 b1) e = cc
exact_value_text (value.Words b0 b1) e = cc

exact_value_reference : (a0 : OpenReference) (q : OpenValue) → (values.ghosts).eq (value.Reference a0) q ≡ true → value.Reference a0 ≡ q
exact_value_reference a0 value.Text e = cc
exact_value_reference a0 (value.Reference b0) e = ap (λ (z : OpenReference). value.Reference z) (exact_reference a0 b0 e)
exact_value_reference a0 (value.Fixed b0) e = cc
exact_value_reference a0 (value.Choice b0 b1) e = cc
exact_value_reference a0 (value.Words b0 b1) e = cc

exact_value_fixed : (a0 : List ℕ) (q : OpenValue) → (values.ghosts).eq (value.Fixed a0) q ≡ true → value.Fixed a0 ≡ q
exact_value_fixed a0 value.Text e = cc
exact_value_fixed a0 (value.Reference b0) e = cc
exact_value_fixed a0 (value.Fixed b0) e = ap (λ (z : List ℕ). value.Fixed z) (exact_bytes a0 b0 e)
exact_value_fixed a0 (value.Choice b0 b1) e = cc
exact_value_fixed a0 (value.Words b0 b1) e = cc

exact_value_choice : (a0 : List ℕ) (a1 : Bool) (q : OpenValue) → (values.ghosts).eq (value.Choice a0 a1) q ≡ true → value.Choice a0 a1 ≡ q
exact_value_choice a0 a1 value.Text e = cc
exact_value_choice a0 a1 (value.Reference b0) e = cc
exact_value_choice a0 a1 (value.Fixed b0) e = cc
exact_value_choice a0 a1 (value.Choice b0 b1) e =
    ap (λ (z : List ℕ × Bool). value.Choice z.0 z.1) (both exact_bytes exact_bool a0 b0 a1 b1 e)
exact_value_choice a0 a1 (value.Words b0 b1) e = cc

exact_value_words : (a0 : Bool) (a1 : Bool) (q : OpenValue) → (values.ghosts).eq (value.Words a0 a1) q ≡ true → value.Words a0 a1 ≡ q
exact_value_words a0 a1 value.Text e = cc
exact_value_words a0 a1 (value.Reference b0) e = cc
exact_value_words a0 a1 (value.Fixed b0) e = cc
exact_value_words a0 a1 (value.Choice b0 b1) e = cc
exact_value_words a0 a1 (value.Words b0 b1) e = ap (λ (z : Bool × Bool). value.Words z.0 z.1) (both exact_bool exact_bool a0 b0 a1 b1 e)

-- open values that are found equal are one
pub exact_value : (a b : OpenValue) → (values.ghosts).eq a b ≡ true → a ≡ b
exact_value value.Text q e = exact_value_text q e
exact_value (value.Reference a0) q e = exact_value_reference a0 q e
exact_value (value.Fixed a0) q e = exact_value_fixed a0 q e
exact_value (value.Choice a0 a1) q e = exact_value_choice a0 a1 q e
exact_value (value.Words a0 a1) q e = exact_value_words a0 a1 q e
