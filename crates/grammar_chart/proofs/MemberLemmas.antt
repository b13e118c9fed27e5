-- Members of lists.
use Rattle.std.proofs.Common.{◌≡◌, ℕ, ◌+◌, ◌<◌, ◌≤◌, ◌⊎◌, inl, inr, zero, suc, List, [], ◌∷◌, ◌++◌, length, map, get_or, Contains, refl, sym, ◌∙◌, ap, subst, arith, Option, Some, slice_get}
use Rattle.std.specs.List.{All}
use Rattle.std.specs.Option.{option_map}
use Rattle.std.proofs.lemmas.List.{append_assoc, append-nil}
use Rattle.std.proofs.lemmas.List.Elements.{Contains-push_cases}
use Rattle.std.proofs.lemmas.Option.{slice_get-get_or, slice_get_within, get_or_from_slice_get, slice_get-map}
use Rattle.numbered_sets.specs.Numbers.{Keeps, AreDifferent}

pub contains_at : {X : Type 0} (xs : List X) (n : ℕ) (x : X) → slice_get xs n ≡ Some x → Contains xs x
contains_at xs n x h = (n, slice_get_within xs n x h, get_or_from_slice_get xs n x x h)

pub at_contains : {X : Type 0} (xs : List X) (x : X) → Contains xs x → (n : ℕ) × (slice_get xs n ≡ Some x)
at_contains {X} xs x c = (c.0, subst (λ (y : X). slice_get xs c.0 ≡ Some y) c.2 (slice_get-get_or xs c.0 x c.1))

pub contains_kept : {X : Type 0} (old new : List X) (x : X) → Keeps old new → Contains old x → Contains new x
contains_kept old new x keeps c = let a = at_contains old x c in contains_at new a.0 x (keeps a.0 x a.1)

pub keeps_both : {X : Type 0} (a b c : List X) → Keeps a b → Keeps b c → Keeps a c
keeps_both a b c k l = λ n x h. l n x (k n x h)

-- an `All` by membership
pub all_by : {X : Type 0} (P : X → Type 0) (xs : List X) → ((x : X) → Contains xs x → P x) → All P xs
all_by P xs h k d below = h (get_or xs k d) (contains_at xs k (get_or xs k d) (slice_get-get_or xs k d below))

pub at_below : {X : Type 0} (xs : List X) (n : ℕ) → n < length xs → (x : X) × (slice_get xs n ≡ Some x)
at_below [] n h = absurd (omega (arith, h))
at_below (x ∷ xs) zero h = (x, refl)
at_below (x ∷ xs) (suc n) h = at_below xs n (omega (arith, h))

-- a member of the longer list at a place of the shorter one is that of the shorter one
pub at_old : {X : Type 0} (old new : List X) (n : ℕ) (x : X) → Keeps old new → n < length old → slice_get new n ≡ Some x → slice_get old n ≡ Some x
at_old {X} old new n x keeps h k =
    let o = at_below old n h in
    let e : Some o.0 ≡ Some x = sym (keeps n o.0 o.1) ∙ k in
    o.1 ∙ e

pub longer : {X : Type 0} (old new : List X) → Keeps old new → length old ≤ length new
longer old new keeps =
    elim (cases_zero (length old)) [
      | inl e ↦ omega (arith, e)
      | inr p ↦
          let o = at_below old p.0 (omega (arith, p.1)) in
          let w = slice_get_within new p.0 o.0 (keeps p.0 o.0 o.1) in
          omega (arith, p.1, w)
    ]
  where
    cases_zero : (n : ℕ) → (n ≡ 0) ⊎ ((m : ℕ) × (n ≡ m + 1))
    cases_zero zero = inl refl
    cases_zero (suc m) = inr (m, omega arith)

pub none_in : {X : Type 0} (xs : List X) (x : X) → xs ≡ [] → Contains xs x → ⊥
none_in {X} xs x e c = let d : Contains [] x = subst (λ (ys : List X). Contains ys x) e c in absurd (omega (arith, d.1))

-- members of a list that is mapped
pub mapped_at : {A K : Type 0} (f : A → K) (xs : List A) (n : ℕ) (x : K) → slice_get (map f xs) n ≡ Some x → (a : A) × (slice_get xs n ≡ Some a) × (x ≡ f a)
mapped_at f [] n x h = cc
mapped_at f (a ∷ xs) zero x h = let same : x ≡ f a = cc in (a, refl, same)
mapped_at f (a ∷ xs) (suc n) x h = mapped_at f xs n x h

pub contains_map : {A K : Type 0} (f : A → K) (xs : List A) (a : A) → Contains xs a → Contains (map f xs) (f a)
contains_map {A} f xs a c =
    let o = at_contains xs a c in
    contains_at (map f xs) o.0 (f a) (slice_get-map f xs o.0 ∙ ap (λ (z : Option A). option_map f z) o.1)

pub keeps_append : {X : Type 0} (old more : List X) → Keeps old (old ++ more)
keeps_append [] more n x h = cc
keeps_append (y ∷ old) more zero x h = h
keeps_append (y ∷ old) more (suc n) x h = keeps_append old more n x h

pub keeps_more : {X : Type 0} (old new more : List X) → new ≡ old ++ more → Keeps old new
keeps_more {X} old new more e = subst (λ (ys : List X). Keeps old ys) (sym e) (keeps_append old more)

-- lists in which no member stands twice
pub different_none : {X : Type 0} → AreDifferent {X = X} []
different_none i j x h k = cc

pub at_push : {X : Type 0} (xs : List X) (y : X) (q : ℕ) (v : X) → slice_get (xs ++ y ∷ []) q ≡ Some v → (slice_get xs q ≡ Some v) ⊎ ((q ≡ length xs) × (y ≡ v))
at_push [] y zero v h = let same : y ≡ v = cc in inr (refl, same)
at_push [] y (suc q) v h = cc
at_push (x ∷ xs) y zero v h = inl h
at_push (x ∷ xs) y (suc q) v h = elim (at_push xs y q v h) [ inl a ↦ inl a | inr a ↦ inr (ap (λ (n : ℕ). suc n) a.0, a.1) ]

pub different_push : {X : Type 0} (xs : List X) (y : X) → AreDifferent xs → (Contains xs y → ⊥) → AreDifferent (xs ++ y ∷ [])
different_push {X} xs y different other i j x h k =
    elim (at_push xs y i x h) [
      | inl a ↦ elim (at_push xs y j x k) [
        | inl b ↦ different i j x a b
        | inr b ↦ absurd (other (subst (λ (z : X). Contains xs z) (sym b.1) (contains_at xs i x a)))
      ]
      | inr a ↦ elim (at_push xs y j x k) [
        | inl b ↦ absurd (other (subst (λ (z : X). Contains xs z) (sym a.1) (contains_at xs j x b)))
        | inr b ↦ a.0 ∙ sym b.0
      ]
    ]

different_later : {X : Type 0} (x : X) (xs : List X) → AreDifferent (x ∷ xs) → AreDifferent xs
different_later x xs different i j y a b = let e = different (suc i) (suc j) y a b in omega (arith, e)

different_head : {X : Type 0} (x : X) (xs : List X) → AreDifferent (x ∷ xs) → Contains xs x → ⊥
different_head x xs different c =
    let o = at_contains xs x c in
    let e = different (suc o.0) 0 x o.1 refl in
    omega (arith, e)

contains_head : {X : Type 0} (x : X) (xs : List X) → Contains (x ∷ xs) x
contains_head x xs = contains_at (x ∷ xs) 0 x refl

contains_later : {X : Type 0} (x : X) (xs : List X) (y : X) → Contains xs y → Contains (x ∷ xs) y
contains_later x xs y c = let o = at_contains xs y c in contains_at (x ∷ xs) (suc o.0) y o.1

-- to members that are different others are added, which are made of different things, and none of which was there
pub different_more : {A K : Type 0} (f : A → K) (old : List K) (xs : List A) → AreDifferent old → AreDifferent xs → ((x y : A) → Contains xs x → Contains xs y → f x ≡ f y → x ≡ y) → ((x : A) → Contains xs x → Contains old (f x) → ⊥) → AreDifferent (old ++ map f xs)
different_more {A} {K} f old [] different others one none = subst (λ (ys : List K). AreDifferent ys) (sym (append-nil old)) different
different_more {A} {K} f old (x ∷ xs) different others one none =
    subst (λ (ys : List K). AreDifferent ys) (append_assoc old (f x ∷ []) (map f xs))
    (different_more f (old ++ f x ∷ []) xs (different_push old (f x) different (none x (contains_head x xs))) (different_later x xs others)
    (λ y z h k. one y z (contains_later x xs y h) (contains_later x xs z k))
    (λ y h c. elim (Contains-push_cases old (f x) (f y) c) [
      | inl was ↦ none y (contains_later x xs y h) was
      | inr same ↦
          let is : x ≡ y = one x y (contains_head x xs) (contains_later x xs y h) same in
          different_head x xs others (subst (λ (z : A). Contains xs z) (sym is) h)
    ]))
