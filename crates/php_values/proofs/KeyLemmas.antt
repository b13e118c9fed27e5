-- Keys: when two are one, and their places in a list.
use Rattle.std.proofs.Common.{◌≡◌, ℕ, suc, ℤ, Bool, true, false, not, ◌&&◌, ◌||◌, if◌then◌else◌, List, [], ◌∷◌, ◌++◌, length, Option, Some, None, refl, sym, ◌∙◌, ap}
use Rattle.std.specs.Prelude.{is_none}
use Rattle.std.specs.List.{list_any}
use Rattle.std.specs.Cmp.{first_so, second_so}
use Rattle.std.specs.Cmp.Lexicographic.{slice_cmp}
use Rattle.std.specs.declared.cmp.Ordering.{Ordering}
use Rattle.std.specs.declared.cmp.Ordering.TheVariants.{Less, Equal, Greater}
use Rattle.std.specs.Ordering.{is_eq, nat_cmp, int_cmp}
use Rattle.std.proofs.lemmas.Cmp.{nat_list_eq_equiv, int_eq_equiv}
use Rattle.std.proofs.lemmas.Map.Lookups.{exact_signed, exact_bytes}
use Rattle.std.proofs.lemmas.Map.Text.{is_eq-slice_cmp}
use Rattle.plain_values.specs.Plain.{PlainKey, int_key, text_key}
use Rattle.plain_values.specs.Keys.{same_key, is_absent, are_distinct}
use Rattle.plain_values.specs.Members.{larger, largest_from}
use Rattle.plain_values.proofs.SameKeys.{same_back}
use Rattle.php_values.specs.View.{plain_key}
use Rattle.php_values.specs.Index.{place, one_later}
use Rattle.php_values.specs.declared.key.Key.{Key}
use Rattle.php_values.specs.declared.key.Key.TheVariants as key
use Rattle.php_values.specs.contracts.key.KeyOrd.TheImpl as key_order

-- the order of keys finds two equal where they are one
pub order_tells : (a b : Key) → is_eq (key_order.ghosts.cmp a b) ≡ same_key (plain_key a) (plain_key b)
order_tells (key.Int a) (key.Int b) = refl
order_tells (key.Int a) (key.Text t) = refl
order_tells (key.Text s) (key.Int b) = refl
order_tells (key.Text s) (key.Text t) = is_eq-slice_cmp s t

pub later_some : (o : Option ℕ) (i : ℕ) → one_later o ≡ Some i → (j : ℕ) × (o ≡ Some j) × (i ≡ suc j)
later_some None i e = cc
later_some (Some j) i e = (j, refl, cc)

pub later_none : (o : Option ℕ) → one_later o ≡ None → o ≡ None
later_none None e = refl
later_none (Some j) e = cc

-- a key that was put behind others
abbrev pub or_place : Option ℕ → Bool → ℕ → Option ℕ
or_place (Some i) b n = Some i
or_place None true n = Some n
or_place None false n = None

or_later : (o : Option ℕ) (b : Bool) (n : ℕ) → one_later (or_place o b n) ≡ or_place (one_later o) b (suc n)
or_later (Some i) b n = refl
or_later None true n = refl
or_later None false n = refl

pub place_push : (ks : List PlainKey) (k q : PlainKey) → place (ks ++ k ∷ []) q ≡ or_place (place ks q) (same_key k q) (length ks)
place_push [] k q = by (same_key k q)
  where
    by : (b : Bool) → (if b then Some 0 else None) ≡ or_place None b 0
    by true = refl
    by false = refl
place_push (j ∷ js) k q = by (place_push js k q) (same_key j q)
  where
    by : place (js ++ k ∷ []) q ≡ or_place (place js q) (same_key k q) (length js) → (b : Bool) → (if b then Some 0 else one_later (place (js ++ k ∷ []) q)) ≡ or_place (if b then Some 0 else one_later (place js q)) (same_key k q) (suc (length js))
    by rest true = refl
    by rest false = ap one_later rest ∙ or_later (place js q) (same_key k q) (length js)

pub largest_push : (best : Option ℤ) (ks : List PlainKey) (k : PlainKey) → largest_from best (ks ++ k ∷ []) ≡ larger k (largest_from best ks)
largest_push best [] k = refl
largest_push best (j ∷ js) k = largest_push (larger j best) js k

pub not_first : (j k : PlainKey) (js : List PlainKey) → place (j ∷ js) k ≡ None → (same_key j k ≡ false) × (place js k ≡ None)
not_first j k js e = by (same_key j k) e
  where
    by : (b : Bool) → (if b then Some 0 else one_later (place js k)) ≡ None → (b ≡ false) × (place js k ≡ None)
    by true h = cc
    by false h = (refl, later_none (place js k) h)

later_same : (o : Option ℕ) → is_none o ≡ is_none (one_later o)
later_same None = refl
later_same (Some i) = refl

-- a key that is none of some keys has no place among them
pub absent_place : (ks : List PlainKey) (k : PlainKey) → is_absent ks k ≡ is_none (place ks k)
absent_place [] k = refl
absent_place (j ∷ js) k = by (absent_place js k) (same_key j k)
  where
    by : not (list_any (λ j. same_key j k) js) ≡ is_none (place js k) → (b : Bool) → not (b || list_any (λ j. same_key j k) js) ≡ is_none (if b then Some 0 else one_later (place js k))
    by rest true = refl
    by rest false = rest ∙ later_same (place js k)

none_is : (o : Option ℕ) → is_none o ≡ true → o ≡ None
none_is None h = refl
none_is (Some i) h = cc

pub no_place : (ks : List PlainKey) (k : PlainKey) → is_absent ks k ≡ true → place ks k ≡ None
no_place ks k h = none_is (place ks k) (sym (absent_place ks k) ∙ h)

pub is_absent_if : (ks : List PlainKey) (k : PlainKey) → place ks k ≡ None → is_absent ks k ≡ true
is_absent_if ks k e = absent_place ks k ∙ ap (λ (o : Option ℕ). is_none o) e

both : (a b : Bool) → a ≡ true → b ≡ true → (a && b) ≡ true
both true true h g = refl
both true false h g = g
both false b h g = h

pub distinct_push : (ks : List PlainKey) (k : PlainKey) → are_distinct ks ≡ true → place ks k ≡ None → are_distinct (ks ++ k ∷ []) ≡ true
distinct_push [] k d e = refl
distinct_push (j ∷ js) k d e =
    let n = not_first j k js e in
    let first : place js j ≡ None = no_place js j (first_so (is_absent js j) (are_distinct js) d) in
    let apart : same_key k j ≡ false = same_back k j ∙ n.0 in
    let absent : place (js ++ k ∷ []) j ≡ None = place_push js k j ∙ ap (λ (o : Option ℕ). or_place o (same_key k j) (length js)) first ∙ ap (λ (b : Bool). or_place None b (length js)) apart in
    both (is_absent (js ++ k ∷ []) j) (are_distinct (js ++ k ∷ [])) (is_absent_if (js ++ k ∷ []) j absent) (distinct_push js k (second_so (is_absent js j) (are_distinct js) d) n.1)
