-- Names as keys: different names are different keys.
use Rattle.std.proofs.Common.{◌≡◌, ℕ, ℤ, true, false, List, Option, Some, None, Less, Equal, refl, sym, ap, ◌∙◌}
use Rattle.std.specs.Cmp.Lexicographic.{slice_cmp}
use Rattle.std.specs.Fmt.{signed_decimal}
use Rattle.std.specs.Ordering.{nat_cmp}
use Rattle.std.proofs.lemmas.Bool.{leb-true, false_from_ne_true}
use Rattle.std.proofs.lemmas.Bool.Decides.{Decides-int_eq}
use Rattle.text_base.specs.Exactness.{exact_bytes}
use Rattle.plain_values.specs.Plain.{text}
use Rattle.plain_values.specs.Keys.{canonical_integer, canonical_key, same_key}
use Rattle.plain_values.specs.Lawful.{IsKey}
use Rattle.plain_values.proofs.CanonicalLemmas.{spelled}
use Rattle.std.proofs.lemmas.Cmp.{nat_list_cmp_total, tied_itself}
use Rattle.function_laws.proofs.Arrays.{key_is}
use Rattle.request_reading.specs.RequestFile.{name_key, fits_text}

same_name : (a b : List ℕ) → same_key (name_key a) (name_key b) ≡ true → a ≡ b
same_name a b h = by (canonical_integer a) (canonical_integer b) refl refl h
  where
    by : (o p : Option ℤ) → canonical_integer a ≡ o → canonical_integer b ≡ p → same_key (canonical_key a o) (canonical_key b p) ≡ true → a ≡ b
    by None None e f g = exact_bytes a b g
    by None (Some w) e f g = absurd (cc)
    by (Some z) None e f g = absurd (cc)
    by (Some z) (Some w) e f g = sym (spelled a z e) ∙ ap signed_decimal ((Decides-int_eq z w).0 g) ∙ spelled b w f

-- a name before another is another key
pub name_apart : (a b : List ℕ) → slice_cmp nat_cmp a b ≡ Less → same_key (name_key a) (name_key b) ≡ false
name_apart a b h = false_from_ne_true (same_key (name_key a) (name_key b)) (λ e. apart (same_name a b e))
  where
    apart : a ≡ b → ⊥
    apart e = let tied : slice_cmp nat_cmp a b ≡ Equal = ap (λ x. slice_cmp nat_cmp a x) (sym e) ∙ tied_itself nat_list_cmp_total a in cc

-- a short name is a key of a value
pub name_is_key : (name : List ℕ) → fits_text name ≡ true → IsKey (name_key name)
name_is_key name h = key_is (text name) (name_key name) (leb-true _ 16777216 h) refl
