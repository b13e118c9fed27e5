-- The nonterminals of the pairs that are taken up.
use Rattle.std.proofs.Common.{◌≡◌, ℕ, zero, suc, ◌+◌, ◌<◌, ◌≤◌, List, [], ◌∷◌, ◌++◌, length, ◌∙◌, refl, ap, arith, Some, slice_get}
use Rattle.std.proofs.lemmas.Option.{same_Some}
use Rattle.numbered_sets.specs.Numbers.{Keeps}
use Rattle.summary_decision.specs.Closed.{Pair}
use Rattle.summary_decision.specs.Joints.{first_nonterminals}

module _ {S : Type 0} where
  pub key_told : (pairs : List (Pair S)) (n i a : ℕ) → slice_get (first_nonterminals pairs n) i ≡ Some a → (i < n) × ((s : S) × (slice_get pairs i ≡ Some (a, s)))
  key_told [] zero i a e = cc
  key_told [] (suc n) i a e = cc
  key_told (x ∷ xs) zero i a e = cc
  key_told (x ∷ xs) (suc n) zero a e = (omega arith, (x.1, ap (λ (k : ℕ). let y : Pair S = (k, x.1) in Some y) (same_Some x.0 a e)))
  key_told (x ∷ xs) (suc n) (suc i) a e = let k = key_told xs n i a e in (omega (arith, k.0), k.1)

  pub told_key : (pairs : List (Pair S)) (n i a : ℕ) (s : S) → i < n → slice_get pairs i ≡ Some (a, s) → slice_get (first_nonterminals pairs n) i ≡ Some a
  told_key [] n i a s l e = cc
  told_key (x ∷ xs) zero i a s l e = absurd (omega (arith, l))
  told_key (x ∷ xs) (suc n) zero a s l e = ap (λ (y : Pair S). Some y.0) (same_Some x (a, s) e)
  told_key (x ∷ xs) (suc n) (suc i) a s l e = told_key xs n i a s (omega (arith, l)) e

  -- the same, as pairs are found
  pub first_kept : (pairs more : List (Pair S)) (n : ℕ) → Keeps pairs more → n ≤ length pairs → first_nonterminals more n ≡ first_nonterminals pairs n
  first_kept pairs more zero keeps l = refl
  first_kept [] more (suc n) keeps l = absurd (omega (arith, l))
  first_kept (x ∷ xs) [] (suc n) keeps l = let e = keeps 0 x refl in cc
  first_kept (x ∷ xs) (y ∷ ys) (suc n) keeps l =
      let same : y ≡ x = same_Some y x (keeps 0 x refl) in
      ap (λ (z : Pair S). z.0 ∷ first_nonterminals ys n) same
      ∙ ap (λ (zs : List ℕ). x.0 ∷ zs) (first_kept xs ys n (λ i z e. keeps (suc i) z e) (omega (arith, l)))

  one_more : (pairs : List (Pair S)) (n a : ℕ) (s : S) → slice_get pairs n ≡ Some (a, s) → first_nonterminals pairs (suc n) ≡ first_nonterminals pairs n ++ a ∷ []
  one_more [] n a s e = cc
  one_more (x ∷ xs) zero a s e = ap (λ (y : Pair S). y.0 ∷ []) (same_Some x (a, s) e)
  one_more (x ∷ xs) (suc n) a s e = ap (λ (zs : List ℕ). x.0 ∷ zs) (one_more xs n a s e)

  -- and one pair more
  pub first_more : (pairs : List (Pair S)) (n a : ℕ) (s : S) → slice_get pairs n ≡ Some (a, s) → first_nonterminals pairs (n + 1) ≡ first_nonterminals pairs n ++ a ∷ []
  first_more pairs n a s e = let next : n + 1 ≡ suc n = omega arith in ap (first_nonterminals pairs) next ∙ one_more pairs n a s e
