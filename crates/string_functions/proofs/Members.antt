-- Which elements stand in lists that are put together.
use Rattle.std.proofs.Common.{◌≡◌, zero, suc, ◌⊎◌, List, [], ◌∷◌, refl, inl, inr, arith}
use Rattle.std.specs.List.{Contains, flat_map}
use Rattle.std.proofs.lemmas.List.Elements.{Contains-append_cases}

pub Contains-nil : {X : Type 0} {A : Type 0} (c : X) → Contains [] c → A
Contains-nil c (k, below, is) = absurd (omega (arith, below))

pub Contains-cons_cases : {X : Type 0} (x : X) (xs : List X) (c : X) → Contains (x ∷ xs) c → (x ≡ c) ⊎ Contains xs c
Contains-cons_cases x xs c (zero, below, is) = inl is
Contains-cons_cases x xs c (suc k, below, is) = inr (k, omega (arith, below), is)

pub Contains-head : {X : Type 0} (x : X) (xs : List X) → Contains (x ∷ xs) x
Contains-head x xs = (0, omega arith, refl)

pub Contains-later : {X : Type 0} (x : X) (xs : List X) (c : X) → Contains xs c → Contains (x ∷ xs) c
Contains-later x xs c (k, below, is) = (suc k, omega (arith, below), is)

-- an element of the lists joined is an element of one of them
pub Contains-flat_map : {X A : Type 0} (f : X → List A) (xs : List X) (c : A) → Contains (flat_map f xs) c → (x : X) × Contains xs x × Contains (f x) c
Contains-flat_map f [] c h = Contains-nil c h
Contains-flat_map f (x ∷ xs) c h =
    elim (Contains-append_cases (f x) (flat_map f xs) c h) [
      | inl here ↦ (x, Contains-head x xs, here)
      | inr there ↦ let below = Contains-flat_map f xs c there in (below.0, Contains-later x xs below.0 below.1, below.2)
    ]
