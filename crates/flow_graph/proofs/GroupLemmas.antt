-- Items and the numbers of their keys.
use Rattle.std.proofs.Common.{◌≡◌, ◌<◌, ◌≤◌, ◌+◌, ◌&&◌, ◌⊎◌, inl, inr, ℕ, zero, suc, Bool, true, false, cond, if◌then◌else◌, List, [], ◌∷◌, ◌++◌, length, take, get_or, Some, refl, sym, subst, ap, ◌∙◌, arith, slice_get}
use Rattle.std.specs.Prelude.{nat_eq}
use Rattle.std.specs.List.{All, count_by}
use Rattle.std.proofs.lemmas.Bool.{eqb-true}
use Rattle.std.proofs.lemmas.List.Sums.{sum_by-cons}
use Rattle.std.specs.declared.vec.Vec.{Vec}
use Rattle.std.specs.declared.alloc.Global.{Global}
use Rattle.std.proofs.Math.Seq.{take-suc}
use Rattle.std.proofs.lemmas.List.{length-append}
use Rattle.std.proofs.lemmas.List.Elements.{All-from_get_or}
use Rattle.std.proofs.lemmas.Option.{same_Some, slice_get-get_or, slice_get_within, get_or_from_slice_get}
use Rattle.numbered_sets.specs.Numbers.{Keeps, AreDifferent}
use Rattle.numbered_sets.specs.Places.{ArePlaces, AreInOrder, places_of}
use Rattle.numbered_sets.proofs.NumberLemmas.{at_front}
use Rattle.flow_graph.specs.Handed.{Handing, AreOwners, IsOf, has_key, AreGroups}

push_cases : {X : Type 0} (xs : List X) (y : X) (k : ℕ) (x : X) → slice_get (xs ++ y ∷ []) k ≡ Some x
    → (slice_get xs k ≡ Some x) ⊎ ((k ≡ length xs) × (y ≡ x))
push_cases [] y zero x e = inr (refl, same_Some y x e)
push_cases [] y (suc k) x e = absurd (cc)
push_cases (z ∷ zs) y zero x e = inl e
push_cases (z ∷ zs) y (suc k) x e = elim (push_cases zs y k x e) [ inl p ↦ inl p | inr p ↦ inr (ap suc p.0, p.1) ]

at_end : {X : Type 0} (xs : List X) (y : X) → slice_get (xs ++ y ∷ []) (length xs) ≡ Some y
at_end [] y = refl
at_end (x ∷ xs) y = at_end xs y

pub no_owners : (keys : List (ℕ × ℕ)) → AreOwners [] keys []
no_owners keys = record { long = refl; each = λ i h e. absurd (cc) }

-- one item more, whose key has this number
one_owner : (all : List Handing) (old new : List (ℕ × ℕ)) (owners : List ℕ) (h : Handing) (k : ℕ) → AreOwners all old owners → Keeps old new → slice_get new k ≡ Some h.0 → AreOwners (all ++ h ∷ []) new (owners ++ k ∷ [])
one_owner all old new owners h k are keeps is = record {
  long = length-append owners (k ∷ []) ∙ (ap (λ (n : ℕ). n + 1) are.long ∙ sym (length-append all (h ∷ [])));
  each = λ i g e. elim (push_cases all h i g e) [
    | inl w ↦ (let r = are.each i g w in (r.0, at_front owners k i r.0 r.1, keeps r.0 g.0 r.2))
    | inr w ↦ (
      k,
      subst (λ (n : ℕ). slice_get (owners ++ k ∷ []) n ≡ Some k) (are.long ∙ sym w.0) (at_end owners k),
      subst (λ (z : Handing). slice_get new k ≡ Some z.0) w.1 is,
    )
  ];
}

pub more_owners : (all : List Handing) (old new : List (ℕ × ℕ)) (owners more : List ℕ) (i : ℕ) (h : Handing) (k : ℕ) → i < length all → AreOwners (take i all) old owners → Keeps old new → slice_get new k ≡ Some (get_or all i h).0
    → more ≡ owners ++ k ∷ [] → AreOwners (take (i + 1) all) new more
more_owners all old new owners more i h k within are keeps is pushed =
    let next : i + 1 ≡ suc i = omega arith in
    let longer : take (i + 1) all ≡ take i all ++ get_or all i h ∷ [] = ap (λ (n : ℕ). take n all) next ∙ take-suc all i h within in
    subst (λ (xs : List Handing). AreOwners xs new more) (sym longer)
    (subst (λ (os : List ℕ). AreOwners (take i all ++ get_or all i h ∷ []) new os) (sym pushed) (one_owner (take i all) old new owners (get_or all i h) k are keeps is))

-- each number is that of a key
pub owners_below : (all : List Handing) (keys : List (ℕ × ℕ)) (owners : List ℕ) → AreOwners all keys owners → All (λ (k : ℕ). k < length keys) owners
owners_below all keys owners are = All-from_get_or (λ (k : ℕ). k < length keys) owners 0 (λ i within. by i within all are.long refl)
  where
    by : (i : ℕ) → i < length owners → (xs : List Handing) → length owners ≡ length xs → xs ≡ all → get_or owners i 0 < length keys
    by i within [] long is = absurd (omega (arith, within, long))
    by i within (x ∷ xs) long is =
        let here : i < length (x ∷ xs) = subst (λ (n : ℕ). i < n) long within in
        let item : slice_get all i ≡ Some (get_or (x ∷ xs) i x) = subst (λ (ys : List Handing). slice_get ys i ≡ Some (get_or (x ∷ xs) i x)) is (slice_get-get_or (x ∷ xs) i x here) in
        let r = are.each i (get_or (x ∷ xs) i x) item in
        let same : get_or owners i 0 ≡ r.0 = get_or_from_slice_get owners i r.0 0 r.1 in
        subst (λ (n : ℕ). n < length keys) (sym same) (slice_get_within keys r.0 (get_or (x ∷ xs) i x).0 r.2)

-- an item whose number is that of the key has the key
same_key : (key : ℕ × ℕ) (h : Handing) → h.0 ≡ key → has_key key h ≡ true
same_key key h e = subst (λ (z : ℕ × ℕ). (nat_eq key.0 z.0 && nat_eq key.1 z.1) ≡ true) (sym e) (grind arith)

-- no number stands at more places than there are items of its key
counted : (keys : List (ℕ × ℕ)) (k : ℕ) (key : ℕ × ℕ) → slice_get keys k ≡ Some key → (all : List Handing) (owners : List ℕ) (i : ℕ) → AreOwners all keys owners → length (places_of owners k i) ≤ count_by (has_key key) all
counted keys k key at all [] i are = omega arith
counted keys k key at [] (o ∷ owners) i are = absurd (let l = are.long in omega arith)
counted keys k key at (h ∷ all) (o ∷ owners) i are =
    by (nat_eq o k) refl (counted keys k key at all owners (i + 1) (record { long = (let l = are.long in omega arith); each = λ j g e. are.each (suc j) g e }))
  where
    more : count_by (has_key key) (h ∷ all) ≡ cond (has_key key h) 1 0 + count_by (has_key key) all
    more = sum_by-cons (λ (z : Handing). cond (has_key key z) 1 0) h all

    by : (b : Bool) → nat_eq o k ≡ b → length (places_of owners k (i + 1)) ≤ count_by (has_key key) all
        → length (if b then i ∷ places_of owners k (i + 1) else places_of owners k (i + 1)) ≤ count_by (has_key key) (h ∷ all)
    by false e rest = omega (arith, rest, more)
    by true e rest =
        let r = are.each 0 h refl in
        let same : r.0 ≡ k = same_Some r.0 k (sym r.1 ∙ ap (λ (n : ℕ). Some n) (eqb-true o k e)) in
        let there : h.0 ≡ key = same_Some h.0 key (sym r.2 ∙ ap (λ (n : ℕ). slice_get keys n) same ∙ at) in
        let one : cond {A = ℕ} (has_key key h) 1 0 ≡ 1 = ap (λ (b : Bool). cond {A = ℕ} b 1 0) (same_key key h there) in
        omega (arith, rest, more, one)

-- the places of numbers are those of items with the key
pub groups : (all : List Handing) (keys : List (ℕ × ℕ)) (owners : List ℕ) (places : List (Vec ℕ Global)) → AreOwners all keys owners → AreDifferent keys → length places ≡ length keys → ArePlaces owners places → AreInOrder owners places
    → AreGroups all keys places
groups all keys owners places are different long exact order = record {
  different = different;
  long = long;
  known = λ i h e. let r = are.each i h e in (r.0, slice_get_within keys r.0 h.0 r.2, get_or_from_slice_get keys r.0 h.0 h.0 r.2);
  each = λ k v there i. (
    λ c. from k i ((exact k v there i).0 c),
    λ it. (exact k v there i).1 (into k i it),
  );
  few = λ k v key there at. subst (λ (ps : List ℕ). length ps ≤ count_by (has_key key) all) (sym (order k v there)) (counted keys k key at all owners 0 are);
}
  where
    from : (k i : ℕ) → slice_get owners i ≡ Some k → IsOf all keys k i
    from k i owner = item_of k i owner all are.long refl
      where
        item_of : (k i : ℕ) → slice_get owners i ≡ Some k → (xs : List Handing) → length owners ≡ length xs → xs ≡ all → IsOf all keys k i
        item_of k i owner [] same is = absurd (let w = slice_get_within owners i k owner in omega (arith, w, same))
        item_of k i owner (x ∷ xs) same is =
            let here : i < length (x ∷ xs) = subst (λ (n : ℕ). i < n) same (slice_get_within owners i k owner) in
            let item : slice_get all i ≡ Some (get_or (x ∷ xs) i x) = subst (λ (ys : List Handing). slice_get ys i ≡ Some (get_or (x ∷ xs) i x)) is (slice_get-get_or (x ∷ xs) i x here) in
            let r = are.each i (get_or (x ∷ xs) i x) item in
            let number : r.0 ≡ k = same_Some r.0 k (sym r.1 ∙ owner) in
            record { item = get_or (x ∷ xs) i x; there = item; key = subst (λ (n : ℕ). slice_get keys n ≡ Some (get_or (x ∷ xs) i x).0) number r.2 }

    into : (k i : ℕ) → IsOf all keys k i → slice_get owners i ≡ Some k
    into k i it =
        let r = are.each i it.item it.there in
        let number : r.0 ≡ k = different r.0 k it.item.0 r.2 it.key in
        subst (λ (n : ℕ). slice_get owners i ≡ Some n) number r.1
