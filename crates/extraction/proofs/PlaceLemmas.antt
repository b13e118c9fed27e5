-- Members of lists by their places.
use Rattle.std.proofs.Common.{◌≡◌, ◌⊎◌, inl, inr, zero, suc, List, [], ◌∷◌, refl, subst, arith, Contains, map}
use Rattle.numbered_sets.specs.Numbers.{Keeps}

pub keeps_itself : {X : Type 0} (xs : List X) → Keeps xs xs
keeps_itself xs = λ n x h. h

pub keeps_both : {X : Type 0} (old mid new : List X) → Keeps old mid → Keeps mid new → Keeps old new
keeps_both old mid new a b = λ n x h. b n x (a n x h)

pub none_of : {X : Type 0} (x : X) → Contains [] x → ⊥
none_of x c = let h = c.1 in omega arith

pub at_head : {X : Type 0} (x : X) (xs : List X) → Contains (x ∷ xs) x
at_head x xs = (0, omega arith, refl)

pub at_later : {X : Type 0} (x : X) (xs : List X) (c : X) → Contains xs c → Contains (x ∷ xs) c
at_later x xs c (k, below, is) = (suc k, omega (arith, below), is)

pub head_cases : {X : Type 0} (x : X) (xs : List X) (c : X) → Contains (x ∷ xs) c → (x ≡ c) ⊎ Contains xs c
head_cases x xs c (zero, below, is) = inl is
head_cases x xs c (suc k, below, is) = inr (k, omega (arith, below), is)

pub mapped : {X Y : Type 0} (f : X → Y) (xs : List X) (x : X) → Contains xs x → Contains (map f xs) (f x)
mapped f [] x c = absurd (none_of x c)
mapped {X} {Y} f (y ∷ xs) x c = elim (head_cases y xs x c) [
  | inl e ↦ subst (λ (z : X). Contains (f y ∷ map f xs) (f z)) e (at_head (f y) (map f xs))
  | inr later ↦ at_later (f y) (map f xs) (f x) (mapped f xs x later)
]

pub unmapped : {X Y : Type 0} (f : X → Y) (xs : List X) (y : Y) → Contains (map f xs) y → (x : X) × Contains xs x × (f x ≡ y)
unmapped f [] y c = absurd (none_of y c)
unmapped f (x ∷ xs) y c = elim (head_cases (f x) (map f xs) y c) [
  | inl e ↦ (x, at_head x xs, e)
  | inr later ↦ let r = unmapped f xs y later in (r.0, at_later x xs r.0 r.1, r.2)
]
