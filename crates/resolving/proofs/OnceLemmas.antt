-- A list with so many entries that has each place below their number has none twice.
use Rattle.std.proofs.Common.{◌≡◌, ◌<◌, ◌+◌, ℕ, zero, suc, List, [], ◌∷◌, map, length, Some, slice_get, Contains, inl, inr, refl, sym, ◌∙◌, ap, subst, arith}
use Rattle.std.proofs.lemmas.Bool.{cases_eq}
use Rattle.std.proofs.lemmas.Cmp.{nat_eq_equiv}
use Rattle.std.proofs.lemmas.Option.{slice_get_within}
use Rattle.std.proofs.lemmas.Map.Steps.{le-length_from_below}
use Rattle.std.proofs.lemmas.Map.Views.{list_any-from_Contains}
use Rattle.resolving.proofs.LetterLemmas.{placed, contained, first_in, later_in, one_of, none_in}
use Rattle.resolving.specs.declared.order.Ranked.{Ranked}
use Rattle.resolving.specs.Order.{HasPlace, AreOnce}

-- the list without the entry at the number
abbrev without : {X : Type 0} → List X → ℕ → List X
without [] j = []
without (x ∷ xs) zero = xs
without (x ∷ xs) (suc j) = x ∷ without xs j

one_shorter : {X : Type 0} (xs : List X) (j : ℕ) → j < length xs → length xs ≡ length (without xs j) + 1
one_shorter [] j lt = absurd (omega (arith, lt))
one_shorter (x ∷ xs) zero lt = omega arith
one_shorter (x ∷ xs) (suc j) lt = let e = one_shorter xs j (omega (arith, lt)) in omega (arith, e)

others_stay : {X : Type 0} (xs : List X) (j k : ℕ) (x : X) → slice_get xs k ≡ Some x → (k ≡ j → ⊥) → Contains (without xs j) x
others_stay [] j k x at other = absurd (none_in x (contained [] k x at))
others_stay (y ∷ xs) zero zero x at other = absurd (other refl)
others_stay (y ∷ xs) zero (suc k) x at other = contained xs k x at
others_stay (y ∷ xs) (suc j) zero x at other = let e : y ≡ x = cc in subst (Contains (y ∷ without xs j)) e (first_in y (without xs j))
others_stay (y ∷ xs) (suc j) (suc k) x at other = later_in y (without xs j) x (others_stay xs j k x at (λ e. other (ap (λ (n : ℕ). suc n) e)))

mapped : {X Y : Type 0} (f : X → Y) (xs : List X) (x : X) → Contains xs x → Contains (map f xs) (f x)
mapped f [] x c = absurd (none_in x c)
mapped {X} {Y} f (y ∷ xs) x c = elim (one_of y xs x c) [
  | inl e ↦ subst (λ (z : Y). Contains (f y ∷ map f xs) z) (ap f e) (first_in (f y) (map f xs))
  | inr there ↦ later_in (f y) (map f xs) (f x) (mapped f xs x there)
]

mapped_length : {X Y : Type 0} (f : X → Y) (xs : List X) → length (map f xs) ≡ length xs
mapped_length f [] = refl
mapped_length f (x ∷ xs) = let e = mapped_length f xs in omega (arith, e)

some_same : {X : Type 0} (x y : X) → Some x ≡ Some y → x ≡ y
some_same x y e = cc

module _ (order : List Ranked) (n : ℕ) (size : length order ≡ n) (all : (place : ℕ) → place < n → HasPlace order place) where
  -- where an entry's place stands also at another number, the others still have all places
  all_without : (i j : ℕ) (r q : Ranked) → slice_get order i ≡ Some r → slice_get order j ≡ Some q → r.place ≡ q.place → (i ≡ j → ⊥) → (place : ℕ) → place < n → Contains (map (λ (x : Ranked). x.place) (without order j)) place
  all_without i j r q at here same other place lt =
      let h = all place lt in
      let o = placed order h.0 h.1 in
      let place_in : (x : Ranked) → Contains (without order j) x → x.place ≡ place → Contains (map (λ (y : Ranked). y.place) (without order j)) place = λ x c e. subst (Contains (map (λ (y : Ranked). y.place) (without order j))) e (mapped (λ (y : Ranked). y.place) (without order j) x c) in
      elim (cases_eq o.0 j) [
        | inl e ↦
            let is : h.0 ≡ q = some_same h.0 q (sym o.1 ∙ (ap (slice_get order) e ∙ here)) in
            place_in r (others_stay order j i r at other) (same ∙ (ap (λ (y : Ranked). y.place) (sym is) ∙ h.2))
        | inr not ↦ place_in h.0 (others_stay order j o.0 h.0 o.1 not) h.2
      ]

  pub each_once : AreOnce order
  each_once i j r q at here same = elim (cases_eq i j) [
    | inl e ↦ e
    | inr other ↦
        let places = map (λ (x : Ranked). x.place) (without order j) in
        let long = le-length_from_below places n (λ p lt. list_any-from_Contains nat_eq_equiv p places (all_without i j r q at here same other p lt)) in
        let short = one_shorter order j (slice_get_within order j q here) in
        let e = mapped_length (λ (x : Ranked). x.place) (without order j) in
        absurd (omega (arith, long, short, e, size))
  ]
