-- Counts as integers, bytes that are UTF-8, and lists of arguments of another length.
use Rattle.std.proofs.Common.{◌≡◌, ◌↔◌, ℕ, ◌<◌, ◌≤◌, pos, Bool, true, false, nat_lt, if◌then◌else◌, List, [], ◌∷◌, length, Ok, Err, IsTrue, refl, sym, ◌∙◌, ap, subst, arith}
use Rattle.std.specs.Prelude.{IsUtf8}
use Rattle.std.specs.Str.{is_utf8}
use Rattle.std.proofs.lemmas.Str.{is_utf8-from_IsUtf8, IsUtf8-from_is_utf8}
use Rattle.std.proofs.lemmas.Bool.Decides.{nat_tests}
use Rattle.plain_values.specs.Plain.{Plain}
use Rattle.plain_values.specs.Numeric.{is_in_range}
use Rattle.plain_values.specs.Arithmetic.{in_64_bits}
use Rattle.plain_values.specs.declared.fault.Fault.{Fault}
use Rattle.plain_values.specs.declared.fault.Fault.TheVariants.{Float, WrongType}
use Rattle.php_values.specs.View.{plain_list}
use Rattle.php_values.specs.declared.array.Value.{Value}
use Rattle.builtin_meaning.specs.Values.{builtin_value}
use Rattle.builtin_meaning.specs.declared.builtin.Builtin.{Builtin}

pub counted_over : (n : ℕ) → 9223372036854775807 < n → in_64_bits (pos n) ≡ Err Float
counted_over n h = by (is_in_range (pos n)) refl
  where
    by : (b : Bool) → is_in_range (pos n) ≡ b → (if b then Ok (pos n) else Err Float) ≡ Err Float
    by true e = absurd (grind (arith, nat_tests, h, e))
    by false e = refl

pub counted_within : (n : ℕ) → n ≤ 9223372036854775807 → in_64_bits (pos n) ≡ Ok (pos n)
counted_within n h = by (is_in_range (pos n)) refl
  where
    by : (b : Bool) → is_in_range (pos n) ≡ b → (if b then Ok (pos n) else Err Float) ≡ Ok (pos n)
    by true e = refl
    by false e = absurd (grind (arith, nat_tests, h, e))

different : false ≡ true → ⊥
different e = cc

pub decides_utf8 : (r : Bool) (bs : List ℕ) → (IsTrue r ↔ IsUtf8 bs) → r ≡ is_utf8 bs
decides_utf8 r bs h = by r (is_utf8 bs) refl refl
  where
    by : (s t : Bool) → r ≡ s → is_utf8 bs ≡ t → s ≡ t
    by true true e f = refl
    by false false e f = refl
    by true false e f = absurd (different (sym f ∙ is_utf8-from_IsUtf8 bs (h.0 e)))
    by false true e f = absurd (different (sym e ∙ h.1 (IsUtf8-from_is_utf8 bs f)))

pub other_length : (f : Builtin) (xs : List Value) → (length xs ≡ 1 → ⊥) → (length xs ≡ 2 → ⊥) → (length xs ≡ 3 → ⊥) → builtin_value f (plain_list xs) ≡ Err WrongType
other_length f [] a b c = refl
other_length f (x ∷ []) a b c = absurd (a (omega arith))
other_length f (x ∷ y ∷ []) a b c = absurd (b (omega arith))
other_length f (x ∷ y ∷ z ∷ []) a b c = absurd (c (omega arith))
other_length f (x ∷ y ∷ z ∷ w ∷ xs) a b c = refl
