-- What stands at a place of a list after a push or a write.
use Rattle.std.proofs.Common.{◌≡◌, ◌<◌, ℕ, zero, suc, List, [], ◌∷◌, ◌++◌, length, Some, slice_get, set, inl, inr, refl, ap, arith}
use Rattle.std.specs.Prelude.{◌⊎◌}
use Rattle.std.proofs.lemmas.Option.{same_Some}

pub push_cases : {X : Type 0} (xs : List X) (y : X) (k : ℕ) (x : X) → slice_get (xs ++ y ∷ []) k ≡ Some x
    → ((k < length xs) × (slice_get xs k ≡ Some x)) ⊎ ((k ≡ length xs) × (y ≡ x))
push_cases [] y zero x e = inr (refl, same_Some y x e)
push_cases [] y (suc k) x e = absurd (cc)
push_cases (z ∷ zs) y zero x e = inl (omega arith, e)
push_cases (z ∷ zs) y (suc k) x e = elim (push_cases zs y k x e) [ inl p ↦ inl (let h = p.0 in omega arith, p.1) | inr p ↦ inr (let h = p.0 in omega arith, p.1) ]

-- what is read after a write: the value written, at its place, or what was there
pub set_cases : {X : Type 0} (xs : List X) (i : ℕ) (y : X) (k : ℕ) (x : X) → slice_get (set xs i y) k ≡ Some x → ((k ≡ i) × (y ≡ x)) ⊎ (slice_get xs k ≡ Some x)
set_cases [] i y k x e = inr e
set_cases (z ∷ zs) zero y zero x e = inl (refl, same_Some y x e)
set_cases (z ∷ zs) zero y (suc k) x e = inr e
set_cases (z ∷ zs) (suc i) y zero x e = inr e
set_cases (z ∷ zs) (suc i) y (suc k) x e = elim (set_cases zs i y k x e) [ inl p ↦ inl (ap suc p.0, p.1) | inr h ↦ inr h ]

-- what was there is there after a write, or is overwritten
pub kept_cases : {X : Type 0} (xs : List X) (i : ℕ) (y : X) (k : ℕ) (x : X) → slice_get xs k ≡ Some x
    → ((k ≡ i) × (slice_get (set xs i y) k ≡ Some y)) ⊎ (slice_get (set xs i y) k ≡ Some x)
kept_cases [] i y k x e = inr e
kept_cases (z ∷ zs) zero y zero x e = inl (refl, refl)
kept_cases (z ∷ zs) zero y (suc k) x e = inr e
kept_cases (z ∷ zs) (suc i) y zero x e = inr e
kept_cases (z ∷ zs) (suc i) y (suc k) x e = elim (kept_cases zs i y k x e) [ inl p ↦ inl (ap suc p.0, p.1) | inr h ↦ inr h ]

pub set_at : {X : Type 0} (xs : List X) (i : ℕ) (y : X) → i < length xs → slice_get (set xs i y) i ≡ Some y
set_at [] i y h = absurd (omega arith)
set_at (z ∷ zs) zero y h = refl
set_at (z ∷ zs) (suc i) y h = set_at zs i y (omega arith)
