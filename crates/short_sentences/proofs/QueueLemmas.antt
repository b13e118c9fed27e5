-- What a heap of items with a length and a place each lets wait.
use Rattle.std.proofs.Common.{◌≡◌, ℕ, zero, suc, ◌≤◌, ◌⊎◌, inl, inr, Bool, true, false, cond, nat_lt, nat_eq, List, [], ◌∷◌, map, Contains, IsPermutation, refl, sym, subst, arith, true≢false}
use Rattle.std.specs.List.{AllByRecursion}
use Rattle.std.specs.Ordering.{is_lt, nat_cmp, ordering_then}
use Rattle.std.proofs.Common.{Ordering}
use Rattle.std.specs.declared.cmp.Ordering.TheVariants.{Less, Equal, Greater}
use Rattle.std.proofs.lemmas.Bool.{ltb-false}
use Rattle.std.proofs.lemmas.List.Elements.{Contains-append_cases, Contains-append_right}
use Rattle.std.proofs.lemmas.List.Sorted.{Contains-permutation, IsPermutation-map}

none_in : {X : Type 0} (x : X) → Contains [] x → ⊥
none_in x c = absurd (omega (arith, c.1))

at_head : {X : Type 0} (y x : X) → Contains (y ∷ []) x → y ≡ x
at_head y x (zero, l, e) = e
at_head y x (suc n, l, e) = absurd (omega (arith, l))

-- what is less by neither number has no smaller length
not_less : (a b : ℕ) (o : Ordering) → is_lt (ordering_then (nat_cmp a b) o) ≡ false → b ≤ a
not_less a b o h = by_test (nat_lt a b) refl h
  where
    by_test : (t : Bool) → nat_lt a b ≡ t → is_lt (ordering_then (cond t Less (cond (nat_eq a b) Equal Greater)) o) ≡ false → b ≤ a
    by_test true e k = absurd (true≢false k)
    by_test false e k = ltb-false a b e

module _ {X : Type 0} (key : X → ℕ × ℕ) where
  abbrev NotAbove : X → X → Type 0
  NotAbove x y = is_lt (ordering_then (nat_cmp (key y).0 (key x).0) (nat_cmp (key y).1 (key x).1)) ≡ false

  pub put_there : (xs ys : List X) (x : X) → IsPermutation (x ∷ xs) ys → Contains (map key ys) (key x)
  put_there xs ys x moved = Contains-permutation (map key (x ∷ xs)) (map key ys) (key x) (IsPermutation-map key (x ∷ xs) ys moved) (0, omega arith, refl)

  pub put_keeps : (xs ys : List X) (x : X) → IsPermutation (x ∷ xs) ys → (z : ℕ × ℕ) → Contains (map key xs) z → Contains (map key ys) z
  put_keeps xs ys x moved z c =
      Contains-permutation (map key (x ∷ xs)) (map key ys) z (IsPermutation-map key (x ∷ xs) ys moved)
      (Contains-append_right (key x ∷ []) (map key xs) z c)

  pub drawn_least : (x : X) (xs : List X) → AllByRecursion (NotAbove x) xs → (z : ℕ × ℕ) → Contains (map key xs) z → (key x).0 ≤ z.0
  drawn_least x [] all z c = absurd (none_in z c)
  drawn_least x (y ∷ ys) all z c = elim (Contains-append_cases (key y ∷ []) (map key ys) z c) [
    | inl here ↦ subst (λ (p : ℕ × ℕ). (key x).0 ≤ p.0) (at_head (key y) z here) (not_less (key y).0 (key x).0 (nat_cmp (key y).1 (key x).1) all.0)
    | inr later ↦ drawn_least x ys all.1 z later
  ]

  pub drawn_rest : (xs ys : List X) (x : X) → IsPermutation xs (x ∷ ys) → (z : ℕ × ℕ) → Contains (map key xs) z → (z ≡ key x) ⊎ Contains (map key ys) z
  drawn_rest xs ys x moved z c = elim (Contains-append_cases (key x ∷ []) (map key ys) z (Contains-permutation (map key xs) (map key (x ∷ ys)) z (IsPermutation-map key xs (x ∷ ys) moved) c)) [
    | inl here ↦ inl (sym (at_head (key x) z here))
    | inr later ↦ inr later
  ]
