-- Copies of a text.
use Rattle.std.proofs.Common.{◌≡◌, ℕ, zero, suc, ◌-◌, ◌<◌, ◌==◌, true, List, [], ◌∷◌, ◌++◌, length, refl, sym, ap, arith}
use Rattle.std.proofs.lemmas.Bool.Decides.{nat_tests}
use Rattle.string_functions.specs.Copies.{copies_of}

pub copies_step : (n : ℕ) (t : List ℕ) → 0 < n → copies_of n t ≡ t ++ copies_of (n - 1) t
copies_step zero t h = absurd (omega arith)
copies_step (suc m) t h = let e : suc m - 1 ≡ m = omega arith in ap (λ (k : ℕ). t ++ copies_of k t) (sym e)

pub copies_of_none : (n : ℕ) → copies_of n [] ≡ []
copies_of_none zero = refl
copies_of_none (suc m) = copies_of_none m

pub copies_of_empty : (n : ℕ) (t : List ℕ) → (length t == 0) ≡ true → copies_of n t ≡ t
copies_of_empty n [] e = copies_of_none n
copies_of_empty n (x ∷ xs) e = absurd (grind (arith, nat_tests, e))
