-- When two keys are one.
use Rattle.std.proofs.Common.{◌≡◌, ℕ, ℤ, true, List, refl, ◌∙◌, ap}
use Rattle.std.specs.Cmp.Lexicographic.{slice_cmp}
use Rattle.std.specs.declared.cmp.Ordering.{Ordering}
use Rattle.std.specs.declared.cmp.Ordering.TheVariants.{Less, Equal, Greater}
use Rattle.std.specs.Ordering.{is_eq, nat_cmp, int_cmp}
use Rattle.std.proofs.lemmas.Cmp.{nat_list_eq_equiv, int_eq_equiv}
use Rattle.std.proofs.lemmas.Map.Lookups.{exact_signed, exact_bytes}
use Rattle.std.proofs.lemmas.Map.Text.{is_eq-slice_cmp}
use Rattle.plain_values.specs.Plain.{PlainKey, int_key, text_key}
use Rattle.plain_values.specs.Keys.{same_key}

pub equal_if : (o : Ordering) → is_eq o ≡ true → o ≡ Equal
equal_if Less e = cc
equal_if Equal e = refl
equal_if Greater e = cc

pub same_is : (a b : PlainKey) → same_key a b ≡ true → a ≡ b
same_is (int_key a) (int_key b) h = ap (λ (z : ℤ). int_key z) (exact_signed a b (equal_if (int_cmp a b) h))
same_is (int_key a) (text_key t) h = cc
same_is (text_key s) (int_key b) h = cc
same_is (text_key s) (text_key t) h = ap (λ (u : List ℕ). text_key u) (exact_bytes s t (equal_if (slice_cmp nat_cmp s t) (is_eq-slice_cmp s t ∙ h)))

pub same_back : (a b : PlainKey) → same_key a b ≡ same_key b a
same_back (int_key a) (int_key b) = int_eq_equiv.symm a b
same_back (int_key a) (text_key t) = refl
same_back (text_key s) (int_key b) = refl
same_back (text_key s) (text_key t) = nat_list_eq_equiv.symm s t

pub same_itself : (a : PlainKey) → same_key a a ≡ true
same_itself (int_key a) = int_eq_equiv.refl a
same_itself (text_key s) = nat_list_eq_equiv.refl s
