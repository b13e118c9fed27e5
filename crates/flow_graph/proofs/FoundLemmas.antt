-- The number of a key, and what is found by it.
use Rattle.std.proofs.Common.{◌≡◌, ◌<◌, inl, inr, ◌↔◌, ℕ, zero, suc, Bool, true, false, ◌&&◌, if◌then◌else◌, List, [], ◌∷◌, length, Option, Some, None, refl, sym, subst, ap, ◌∙◌, arith, slice_get, Contains, eq-eqb, flat_map}
use Rattle.std.specs.Prelude.{nat_eq, IfSome, IfNone}
use Rattle.std.specs.Option.{option_map}
use Rattle.std.specs.declared.vec.Vec.{Vec}
use Rattle.std.specs.declared.alloc.Global.{Global}
use Rattle.std.proofs.lemmas.Map.Views.{exact_unsigned_eq}
use Rattle.std.proofs.lemmas.Option.{same_Some, slice_get-get_or, slice_get_within, get_or_from_slice_get}
use Rattle.std.proofs.lemmas.List.Elements.{Contains-append_left, Contains-append_right, Contains-append_cases}
use Rattle.text_base.specs.Exactness.{exact_pair}
use Rattle.numbered_sets.specs.Numbers.{AreDifferent}
use Rattle.flow_graph.specs.Handed.{Handing, AreGroups}
use Rattle.flow_graph.specs.Found.{number_in, items_of, places_of, pair_of, pair_at, pairs_under}

key_itself : (k p : ℕ × ℕ) → k ≡ p → (nat_eq k.0 p.0 && nat_eq k.1 p.1) ≡ true
key_itself k p e =
    let a : nat_eq k.0 p.0 ≡ true = eq-eqb k.0 p.0 (ap (λ (z : ℕ × ℕ). z.0) e) in
    let b : nat_eq k.1 p.1 ≡ true = eq-eqb k.1 p.1 (ap (λ (z : ℕ × ℕ). z.1) e) in
    ap (λ z. z && nat_eq k.1 p.1) a ∙ b

others_different : (k : ℕ × ℕ) (ks : List (ℕ × ℕ)) → AreDifferent (k ∷ ks) → AreDifferent ks
others_different k ks different i j x a b = let e : suc i ≡ suc j = different (suc i) (suc j) x a b in omega (arith, e)

-- the number of a key is its only place
pub found : (ks : List (ℕ × ℕ)) (p : ℕ × ℕ) (i : ℕ) → AreDifferent ks → slice_get ks i ≡ Some p → number_in ks p.0 p.1 ≡ Some i
unfolding number_in
found [] p i different e = absurd (cc)
found (k ∷ ks) p zero different e = ap (λ z. if z then Some zero else option_map suc (number_in ks p.0 p.1)) (key_itself k p (same_Some k p e))
found (k ∷ ks) p (suc i) different e = by (nat_eq k.0 p.0 && nat_eq k.1 p.1) refl (found ks p i (others_different k ks different) e)
  where
    by : (b : Bool) → (nat_eq k.0 p.0 && nat_eq k.1 p.1) ≡ b → number_in ks p.0 p.1 ≡ Some i → (if nat_eq k.0 p.0 && nat_eq k.1 p.1 then Some zero else option_map suc (number_in ks p.0 p.1)) ≡ Some (suc i)
    by true same below =
        let is : k ≡ p = exact_pair exact_unsigned_eq k p same in
        let first : Some k ≡ Some p = ap (λ (z : ℕ × ℕ). Some z) is in
        let twice : zero ≡ suc i = different zero (suc i) p first e in
        absurd (omega (arith, twice))
    by false same below = ap (λ z. if z then Some zero else option_map suc (number_in ks p.0 p.1)) same ∙ ap (λ (z : Option ℕ). option_map suc z) below

-- what is no key has no number
pub absent : (ks : List (ℕ × ℕ)) (p : ℕ × ℕ) → (Contains ks p → ⊥) → number_in ks p.0 p.1 ≡ None
unfolding number_in
absent [] p none = refl
absent (k ∷ ks) p none = by (nat_eq k.0 p.0 && nat_eq k.1 p.1) refl (absent ks p (λ c. none (suc c.0, let h = c.1 in omega arith, c.2)))
  where
    by : (b : Bool) → (nat_eq k.0 p.0 && nat_eq k.1 p.1) ≡ b → number_in ks p.0 p.1 ≡ None → (if nat_eq k.0 p.0 && nat_eq k.1 p.1 then Some zero else option_map suc (number_in ks p.0 p.1)) ≡ None
    by true same below = absurd (none (zero, omega arith, exact_pair exact_unsigned_eq k p same))
    by false same below = ap (λ z. if z then Some zero else option_map suc (number_in ks p.0 p.1)) same ∙ ap (λ (z : Option ℕ). option_map suc z) below

pub numbered : (ks : List (ℕ × ℕ)) (p : ℕ × ℕ) (r : Option ℕ) → AreDifferent ks → IfSome r (λ n. slice_get ks n ≡ Some p) → IfNone r (Contains ks p → ⊥) → r ≡ number_in ks p.0 p.1
numbered ks p None different is isnt = sym (absent ks p isnt)
numbered ks p (Some i) different is isnt = sym (found ks p i different is)

none_in : {X : Type 0} (x : X) → Contains [] x → ⊥
none_in x c = let h = c.1 in omega arith

-- what stands at the places
at_places : (all : List Handing) (ps : List ℕ) (pair : ℕ × ℕ) → Contains (flat_map (pair_at all) ps) pair → (i : ℕ) × Contains ps i × Contains (pair_at all i) pair
at_places all [] pair c = absurd (none_in pair c)
at_places all (i ∷ ps) pair c = elim (Contains-append_cases (pair_at all i) (flat_map (pair_at all) ps) pair c) [
  | inl h ↦ (i, (zero, omega arith, refl), h)
  | inr h ↦ (let r = at_places all ps pair h in (r.0, Contains-append_right (i ∷ []) ps r.0 r.1, r.2))
]

from_places : (all : List Handing) (ps : List ℕ) (i : ℕ) (pair : ℕ × ℕ) → Contains ps i → Contains (pair_at all i) pair → Contains (flat_map (pair_at all) ps) pair
from_places all [] i pair c h = absurd (none_in i c)
from_places all (j ∷ ps) i pair c h = elim (Contains-append_cases (j ∷ []) ps i c) [
  | inl e ↦ Contains-append_left (pair_at all j) (flat_map (pair_at all) ps) pair (subst (λ (k : ℕ). Contains (pair_at all k) pair) (sym (one j i e)) h)
  | inr e ↦ Contains-append_right (pair_at all j) (flat_map (pair_at all) ps) pair (from_places all ps i pair e h)
]
  where
    one : (j i : ℕ) → Contains (j ∷ []) i → j ≡ i
    one j i (zero, within, e) = e
    one j i (suc n, within, e) = absurd (omega (arith, within))

-- a number is that of the key
pub number_is : (ks : List (ℕ × ℕ)) (p : ℕ × ℕ) (i : ℕ) → number_in ks p.0 p.1 ≡ Some i → slice_get ks i ≡ Some p
unfolding number_in
number_is [] p i e = absurd (cc)
number_is (k ∷ ks) p i e = by (nat_eq k.0 p.0 && nat_eq k.1 p.1) refl (number_in ks p.0 p.1) refl (number_is ks p)
  where
    by : (b : Bool) → (nat_eq k.0 p.0 && nat_eq k.1 p.1) ≡ b → (o : Option ℕ) → number_in ks p.0 p.1 ≡ o → ((j : ℕ) → number_in ks p.0 p.1 ≡ Some j → slice_get ks j ≡ Some p) → slice_get (k ∷ ks) i ≡ Some p
    by true same o later below =
        let here : Some zero ≡ Some i = sym (ap (λ z. if z then Some zero else option_map suc (number_in ks p.0 p.1)) same) ∙ e in
        let first : zero ≡ i = same_Some zero i here in
        subst (λ (n : ℕ). slice_get (k ∷ ks) n ≡ Some p) first (ap (λ (z : ℕ × ℕ). Some z) (exact_pair exact_unsigned_eq k p same))
    by false same None later below =
        let none : None ≡ Some i = sym (ap (λ (z : Option ℕ). option_map suc z) later) ∙ (sym (ap (λ z. if z then Some zero else option_map suc (number_in ks p.0 p.1)) same) ∙ e) in
        absurd (cc)
    by false same (Some j) later below =
        let next : Some (suc j) ≡ Some i = sym (ap (λ (z : Option ℕ). option_map suc z) later) ∙ (sym (ap (λ z. if z then Some zero else option_map suc (number_in ks p.0 p.1)) same) ∙ e) in
        subst (λ (n : ℕ). slice_get (k ∷ ks) n ≡ Some p) (same_Some (suc j) i next) (below j later)

pub contains_at : {X : Type 0} (xs : List X) (x : X) → Contains xs x → (i : ℕ) × (slice_get xs i ≡ Some x)
contains_at xs x c = (c.0, slice_get-get_or xs c.0 x c.1 ∙ ap (λ z. Some z) c.2)

pub at_contains : {X : Type 0} (xs : List X) (x : X) (i : ℕ) → slice_get xs i ≡ Some x → Contains xs x
at_contains xs x i e = (i, slice_get_within xs i x e, get_or_from_slice_get xs i x x e)

-- there is a list for each key
list_at : (places : List (Vec ℕ Global)) (k : ℕ) → k < length places → (v : Vec ℕ Global) × (slice_get places k ≡ Some v)
list_at [] k within = absurd (omega (arith, within))
list_at (v ∷ vs) zero within = (v, refl)
list_at (v ∷ vs) (suc k) within = list_at vs k (omega (arith, within))

module _ (all : List Handing) (keys : List (ℕ × ℕ)) (places : List (Vec ℕ Global)) (are : AreGroups all keys places) where
  one_pair : (o : Option Handing) (pair : ℕ × ℕ) → Contains (pair_of o) pair → (h : Handing) × (o ≡ Some h) × (h.1 ≡ pair)
  one_pair None pair c = absurd (none_in pair c)
  one_pair (Some h) pair (zero, within, e) = (h, refl, e)
  one_pair (Some h) pair (suc n, within, e) = absurd (omega (arith, within))

  item_in : (p pair : ℕ × ℕ) (h : Handing) → h.0 ≡ p → h.1 ≡ pair → Contains all h → Contains all (p, pair)
  item_in p pair h first second c = subst (λ (z : ℕ × ℕ). Contains all (p, z)) second (subst (λ (z : ℕ × ℕ). Contains all (z, h.1)) first c)

  from_list : (p pair : ℕ × ℕ) (k : ℕ) → number_in keys p.0 p.1 ≡ Some k → (o : Option (Vec ℕ Global)) → slice_get places k ≡ o → Contains (flat_map (pair_at all) (items_of o)) pair → Contains all (p, pair)
  from_list p pair k number None there c = absurd (none_in pair c)
  from_list p pair k number (Some v) there c =
      let r = at_places all v.items pair c in
      let it = (are.each k v there r.0).0 r.1 in
      let one = one_pair (slice_get all r.0) pair r.2 in
      let same : Some it.item ≡ Some one.0 = sym it.there ∙ one.1 in
      let is : it.item ≡ one.0 = same_Some it.item one.0 same in
      let key : it.item.0 ≡ p = same_Some it.item.0 p (sym it.key ∙ number_is keys p k number) in
      item_in p pair it.item key (ap (λ (z : Handing). z.1) is ∙ one.2) (at_contains all it.item r.0 it.there)

  from_number : (p pair : ℕ × ℕ) (o : Option ℕ) → number_in keys p.0 p.1 ≡ o → Contains (flat_map (pair_at all) (places_of places o)) pair → Contains all (p, pair)
  from_number p pair None number c = absurd (none_in pair c)
  from_number p pair (Some k) number c = from_list p pair k number (slice_get places k) refl c

  into_pairs : (p pair : ℕ × ℕ) → Contains all (p, pair) → Contains (pairs_under all keys places p.0 p.1) pair
  into_pairs p pair c =
      let at = contains_at all (p, pair) c in
      let known = contains_at keys p (are.known at.0 (p, pair) at.1) in
      let number : number_in keys p.0 p.1 ≡ Some known.0 = found keys p known.0 are.different known.1 in
      let within : known.0 < length places = subst (λ (n : ℕ). known.0 < n) (sym are.long) (slice_get_within keys known.0 p known.1) in
      let list = list_at places known.0 within in
      let inside : Contains list.0.items at.0 = (are.each known.0 list.0 list.1 at.0).1 (record { item = (p, pair); there = at.1; key = known.1 }) in
      let here : Contains (pair_at all at.0) pair = subst (λ (o : Option Handing). Contains (pair_of o) pair) (sym at.1) (zero, omega arith, refl) in
      subst (λ (o : Option ℕ). Contains (flat_map (pair_at all) (places_of places o)) pair) (sym number)
      (subst (λ (o : Option (Vec ℕ Global)). Contains (flat_map (pair_at all) (items_of o)) pair) (sym list.1) (from_places all list.0.items at.0 pair inside here))

  -- what is found under a function and a parameter is what is handed in for it
  pub pairs_exact : (p pair : ℕ × ℕ) → Contains (pairs_under all keys places p.0 p.1) pair ↔ Contains all (p, pair)
  pairs_exact p pair = (from_number p pair (number_in keys p.0 p.1) refl, into_pairs p pair)
