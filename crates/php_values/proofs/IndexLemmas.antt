-- A put keeps the index of an array.
use Rattle.std.proofs.Common.{◌≡◌, ℕ, ℤ, ◌<◌, ◌^◌, Bool, true, false, cond, List, [], ◌∷◌, ◌++◌, length, get_or, set, Option, Some, None, refl, sym, ◌∙◌, ap, subst, arith}
use Rattle.std.specs.BTreeMap.{BTreeMap, is_at}
use Rattle.std.specs.BTreeMap as tree
use Rattle.plain_values.specs.Plain.{PlainKey, Pairs, keys, depth, deepest}
use Rattle.plain_values.specs.Keys.{same_key, are_distinct}
use Rattle.plain_values.specs.Members.{larger, largest_from}
use Rattle.php_values.specs.View.{plain_of, plain_key, pairs_of}
use Rattle.php_values.specs.Index.{place, IsIndexed, HasDeepest}
use Rattle.plain_values.proofs.SameKeys.{same_is}
use Rattle.php_values.proofs.KeyLemmas.{order_tells, or_place, place_push, largest_push, distinct_push}
use Rattle.php_values.proofs.Places.{length-keys, keys-push, put_present, keys-put_present, place_lt, deepest-put, deepest-push}
use Rattle.php_values.specs.declared.key.Key.{Key}
use Rattle.php_values.specs.declared.array.Value.{Value}
use Rattle.php_values.specs.contracts.key.KeyOrd.TheImpl as key_order

no_change : (o : Option ℕ) (n : ℕ) → o ≡ or_place o false n
no_change None n = refl
no_change (Some i) n = refl

-- the places after a key was put behind others
placed : (ks : List PlainKey) (k q : PlainKey) (n : ℕ) → place ks k ≡ None → cond (same_key k q) (Some n) (place ks q) ≡ or_place (place ks q) (same_key k q) n
placed ks k q n absent = by (same_key k q) (same_is k q)
  where
    by : (b : Bool) → (b ≡ true → k ≡ q) → cond b (Some n) (place ks q) ≡ or_place (place ks q) b n
    by true h = let e : place ks q ≡ None = subst (λ (j : PlainKey). place ks j ≡ None) (h refl) absent in ap (λ (o : Option ℕ). or_place o true n) (sym e)
    by false h = no_change (place ks q) n

pub indexed_add : (xs : List (Key × Value)) (places after : BTreeMap Key ℕ) (largest : Option ℤ) (deep many deep' many' : ℕ) (k : Key) (v : Value) → IsIndexed xs places largest deep many → HasDeepest deep' many' (xs ++ (k, v) ∷ []) → place (keys (pairs_of xs)) (plain_key k) ≡ None → depth (plain_of v) < 1000
    → ((q : Key) → tree.get key_order.ghosts.cmp after q ≡ cond (is_at (key_order.ghosts.cmp k) q) (Some (length xs)) (tree.get key_order.ghosts.cmp places q))
    → IsIndexed (xs ++ (k, v) ∷ []) after (larger (plain_key k) largest) deep' many'
indexed_add xs places after largest deep many deep' many' k v h found absent shallow updates = record {
  indexed = λ q.
      updates q
      ∙ ap (λ (b : Bool). cond b (Some (length xs)) (tree.get key_order.ghosts.cmp places q)) (order_tells k q)
      ∙ ap (λ (o : Option ℕ). cond (same_key (plain_key k) (plain_key q)) (Some (length xs)) o) (h.indexed q)
      ∙ placed (keys (pairs_of xs)) (plain_key k) (plain_key q) (length xs) absent
      ∙ ap (λ (n : ℕ). or_place (place (keys (pairs_of xs)) (plain_key q)) (same_key (plain_key k) (plain_key q)) n) (sym (length-keys xs))
      ∙ sym (place_push (keys (pairs_of xs)) (plain_key k) (plain_key q))
      ∙ ap (λ (ks : List PlainKey). place ks (plain_key q)) (sym (keys-push xs (k, v)));
  next = ap (larger (plain_key k)) h.next ∙ sym (largest_push None (keys (pairs_of xs)) (plain_key k)) ∙ ap (λ (ks : List PlainKey). largest_from None ks) (sym (keys-push xs (k, v)));
  distinct = subst (λ (ks : List PlainKey). are_distinct ks ≡ true) (sym (keys-push xs (k, v))) (distinct_push (keys (pairs_of xs)) (plain_key k) h.distinct absent);
  depth = found.is_depth;
  shallow = omega (arith, found.is_depth, deepest-push xs (k, v), h.depth, h.shallow, shallow);
  count = found.is_count;
}

pub indexed_set : (xs : List (Key × Value)) (places : BTreeMap Key ℕ) (largest : Option ℤ) (deep many deep' many' : ℕ) (k : PlainKey) (v : Value) (i : ℕ) (d : Key × Value) → IsIndexed xs places largest deep many → place (keys (pairs_of xs)) k ≡ Some i → depth (plain_of v) < 1000
    → HasDeepest deep' many' (set xs i ((get_or xs i d).0, v)) → IsIndexed (set xs i ((get_or xs i d).0, v)) places largest deep' many'
indexed_set xs places largest deep many deep' many' k v i d h at shallow found =
    let same : keys (pairs_of (set xs i ((get_or xs i d).0, v))) ≡ keys (pairs_of xs) = ap keys (put_present xs k v i d at) ∙ keys-put_present (pairs_of xs) k (plain_of v) i at in
    let new : List (Key × Value) = set xs i ((get_or xs i d).0, v) in
    let low : deepest (pairs_of new) < 1000 = subst (λ (ps : Pairs). deepest ps < 1000) (sym (put_present xs k v i d at)) (deepest-put (pairs_of xs) k (plain_of v) 1000 (subst (λ (n : ℕ). n < 1000) h.depth h.shallow) shallow) in
    record {
      indexed = λ q. h.indexed q ∙ ap (λ (ks : List PlainKey). place ks (plain_key q)) (sym same);
      next = h.next ∙ ap (λ (ks : List PlainKey). largest_from None ks) (sym same);
      distinct = subst (λ (ks : List PlainKey). are_distinct ks ≡ true) (sym same) h.distinct;
      depth = found.is_depth;
      shallow = subst (λ (n : ℕ). n < 1000) (sym found.is_depth) low;
      count = found.is_count;
    }

-- how deep the deepest members are after one changed, whatever they were
abbrev pub FindsDeepest : ℕ → ℕ → ℕ → ℕ → ℕ → ℕ → List (Key × Value) → Type 0
FindsDeepest deep many before after deep' many' ys = (xs : List (Key × Value)) (i : ℕ) (old new : Key × Value) → i < length xs → length xs < 2 ^ 63 → HasDeepest deep many xs
    → before ≡ depth (plain_of (get_or xs i old).1) → after ≡ depth (plain_of new.1) → ys ≡ set xs i new → HasDeepest deep' many' ys

-- the same, by the numbers that the code has found
pub indexed_changed : (xs : List (Key × Value)) (places : BTreeMap Key ℕ) (largest : Option ℤ) (deep many deep' many' : ℕ) (k : PlainKey) (v : Value) (i : ℕ) (x : Key × Value) (before after : ℕ) (ys : List (Key × Value)) → IsIndexed xs places largest deep many → place (keys (pairs_of xs)) k ≡ Some i → depth (plain_of v) < 1000
    → length xs < 2 ^ 63 → x ≡ get_or xs i x → before ≡ depth (plain_of x.1) → after ≡ depth (plain_of v) → ys ≡ set xs i (x.0, v) → FindsDeepest deep many before after deep' many' ys → IsIndexed (set xs i (x.0, v)) places largest deep' many'
indexed_changed xs places largest deep many deep' many' k v i x before after ys h at shallow short is was now new finds =
    let old : Key × Value = get_or xs i x in
    let within : i < length xs = let placed = place_lt (keys (pairs_of xs)) k i at in let count = length-keys xs in omega arith in
    let as_old : before ≡ depth (plain_of old.1) = was ∙ ap (λ (p : Key × Value). depth (plain_of p.1)) is in
    let found : HasDeepest deep' many' ys = finds xs i x (x.0, v) within short (record { is_depth = h.depth; is_count = h.count }) as_old now new in
    let here : HasDeepest deep' many' (set xs i (old.0, v)) = subst (λ (p : Key × Value). HasDeepest deep' many' (set xs i (p.0, v))) is (subst (HasDeepest deep' many') new found) in
    subst (λ (p : Key × Value). IsIndexed (set xs i (p.0, v)) places largest deep' many') (sym is) (indexed_set xs places largest deep many deep' many' k v i x h at shallow here)
