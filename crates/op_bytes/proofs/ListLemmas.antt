-- Members of lists.
use Rattle.std.proofs.Common.{◌≡◌, ℕ, zero, suc, Bool, true, false, List, [], ◌∷◌, map, Some, slice_get, Contains, inl, inr, refl, ◌∙◌, ap, subst, arith}
use Rattle.std.specs.Prelude.{◌⊎◌, ◌&&◌}
use Rattle.std.specs.List.{list_all}
use Rattle.std.proofs.lemmas.Option.{slice_get_within, slice_get-get_or, get_or_from_slice_get, same_Some}

pub placed : {X : Type 0} (xs : List X) (x : X) → Contains xs x → (n : ℕ) × (slice_get xs n ≡ Some x)
placed xs x c = (c.0, slice_get-get_or xs c.0 x c.1 ∙ ap Some c.2)

pub contained : {X : Type 0} (xs : List X) (n : ℕ) (x : X) → slice_get xs n ≡ Some x → Contains xs x
contained xs n x e = (n, slice_get_within xs n x e, get_or_from_slice_get xs n x x e)

pub none_in : {X : Type 0} {A : Type 0} (x : X) → Contains [] x → A
none_in x c = absurd (omega (arith, c.1))

pub one_of : {X : Type 0} (x : X) (xs : List X) (c : X) → Contains (x ∷ xs) c → (x ≡ c) ⊎ Contains xs c
one_of x xs c (zero, below, is) = inl is
one_of x xs c (suc k, below, is) = inr (k, omega (arith, below), is)

pub first_in : {X : Type 0} (x : X) (xs : List X) → Contains (x ∷ xs) x
first_in x xs = (0, omega arith, refl)

pub later_in : {X : Type 0} (x : X) (xs : List X) (c : X) → Contains xs c → Contains (x ∷ xs) c
later_in x xs c (k, below, is) = (suc k, omega (arith, below), is)

pub only_in : {X : Type 0} (x c : X) → Contains (x ∷ []) c → x ≡ c
only_in x c h = elim (one_of x [] c h) [ inl same ↦ same | inr none ↦ none_in c none ]

pub first_so : (a b : Bool) → (a && b) ≡ true → a ≡ true
first_so true b h = refl
first_so false b h = absurd (cc)

pub second_so : (a b : Bool) → (a && b) ≡ true → b ≡ true
second_so true b h = h
second_so false b h = absurd (cc)

pub all_at : {X : Type 0} (test : X → Bool) (xs : List X) (x : X) → list_all test xs ≡ true → Contains xs x → test x ≡ true
all_at test [] x h c = none_in x c
all_at test (y ∷ ys) x h c = elim (one_of y ys x c) [
  | inl same ↦ subst (λ z. test z ≡ true) same (first_so (test y) (list_all test ys) h)
  | inr there ↦ all_at test ys x (second_so (test y) (list_all test ys) h) there
]

-- what stands in a list of values of a function
pub of_map : {A B : Type 0} (f : A → B) (xs : List A) (k : ℕ) (y : B) → slice_get (map f xs) k ≡ Some y → (x : A) × (slice_get xs k ≡ Some x) × (f x ≡ y)
of_map f [] k y e = absurd (let w = slice_get_within [] k y e in omega arith)
of_map f (x ∷ xs) zero y e = (x, refl, same_Some (f x) y e)
of_map f (x ∷ xs) (suc k) y e = of_map f xs k y e

pub to_map : {A B : Type 0} (f : A → B) (xs : List A) (k : ℕ) (x : A) → slice_get xs k ≡ Some x → slice_get (map f xs) k ≡ Some (f x)
to_map f [] k x e = absurd (let w = slice_get_within [] k x e in omega arith)
to_map f (y ∷ ys) zero x e = ap (λ z. Some (f z)) (same_Some y x e)
to_map f (y ∷ ys) (suc k) x e = to_map f ys k x e
