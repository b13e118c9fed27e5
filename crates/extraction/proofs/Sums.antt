-- Sums over lists, and lists that cover others.
use Rattle.std.proofs.Common.{◌≡◌, ◌≤◌, ◌+◌, ◌*◌, ◌⊎◌, inl, inr, ℕ, suc, List, [], ◌∷◌, Some, refl, sym, subst, ap, ◌∙◌, arith, slice_get, Contains, length, map}
use Rattle.std.specs.Prelude.{flat_map}
use Rattle.std.specs.List.{sum_by}
use Rattle.std.proofs.lemmas.List.Sums.{sum_by-cons, sum_by-append}
use Rattle.std.proofs.lemmas.Option.{slice_get-get_or}
use Rattle.numbered_sets.specs.Numbers.{AreDifferent}
use Rattle.string_functions.proofs.Members.{Contains-nil, Contains-cons_cases, Contains-head, Contains-later}

-- sums over pieces, and of other values
pub sum_flat : {X Y : Type 0} (weigh : Y → ℕ) (f : X → List Y) (xs : List X) → sum_by weigh (flat_map f xs) ≡ sum_by (λ x. sum_by weigh (f x)) xs
sum_flat weigh f [] = refl
sum_flat {X} weigh f (x ∷ xs) =
    let a = sum_by-append weigh (f x) (flat_map f xs) in
    let b = sum_by-cons (λ (z : X). sum_by weigh (f z)) x xs in
    let c = sum_flat weigh f xs in
    a ∙ ap (λ (n : ℕ). sum_by weigh (f x) + n) c ∙ sym b

pub sum_map : {X Y : Type 0} (weigh : Y → ℕ) (f : X → Y) (xs : List X) → sum_by weigh (map f xs) ≡ sum_by (λ x. weigh (f x)) xs
sum_map weigh f [] = refl
sum_map {X} weigh f (x ∷ xs) = sum_by-cons weigh (f x) (map f xs) ∙ ap (λ (n : ℕ). weigh (f x) + n) (sum_map weigh f xs) ∙ sym (sum_by-cons (λ (z : X). weigh (f z)) x xs)

-- a sum is no more than another where each part is
pub sum_le : {X : Type 0} (f g : X → ℕ) (xs : List X) → ((x : X) → Contains xs x → f x ≤ g x) → sum_by f xs ≤ sum_by g xs
sum_le f g [] le = omega arith
sum_le f g (x ∷ xs) le =
    let a = sum_by-cons f x xs in
    let b = sum_by-cons g x xs in
    let c = le x (Contains-head x xs) in
    let d = sum_le f g xs (λ y has. le y (Contains-later x xs y has)) in
    omega arith

pub sum_add : {X : Type 0} (f g : X → ℕ) (xs : List X) → sum_by (λ x. f x + g x) xs ≡ sum_by f xs + sum_by g xs
sum_add f g [] = refl
sum_add {X} f g (x ∷ xs) =
    let a = sum_by-cons f x xs in
    let b = sum_by-cons g x xs in
    let c = sum_by-cons (λ (z : X). f z + g z) x xs in
    let d = sum_add f g xs in
    omega arith

pub mul-add : (c a b : ℕ) → c * (a + b) ≡ c * a + c * b
mul-add c a b = grind arith

pub add-mul : (a b c : ℕ) → (a + b) * c ≡ a * c + b * c
add-mul a b c = grind arith

pub sum_same : {X : Type 0} (f g : X → ℕ) (xs : List X) → ((x : X) → f x ≡ g x) → sum_by f xs ≡ sum_by g xs
sum_same f g [] same = refl
sum_same f g (x ∷ xs) same = sum_by-cons f x xs ∙ ap (λ (n : ℕ). n + sum_by f xs) (same x) ∙ ap (λ (n : ℕ). g x + n) (sum_same f g xs same) ∙ sym (sum_by-cons g x xs)

pub sum_times_right : {X : Type 0} (f : X → ℕ) (c : ℕ) (xs : List X) → sum_by (λ x. f x * c) xs ≡ sum_by f xs * c
sum_times_right f c [] = nothing c
  where
    nothing : (c : ℕ) → 0 ≡ 0 * c
    nothing c = omega arith
sum_times_right {X} f c (x ∷ xs) =
    sum_by-cons (λ (z : X). f z * c) x xs ∙ ap (λ (n : ℕ). f x * c + n) (sum_times_right f c xs) ∙ sym (add-mul (f x) (sum_by f xs) c) ∙ ap (λ (n : ℕ). n * c) (sym (sum_by-cons f x xs))

pub sum_times : {X : Type 0} (c : ℕ) (f : X → ℕ) (xs : List X) → sum_by (λ x. c * f x) xs ≡ c * sum_by f xs
sum_times c f [] = nothing c
  where
    nothing : (c : ℕ) → 0 ≡ c * 0
    nothing c = omega arith
sum_times {X} c f (x ∷ xs) =
    sum_by-cons (λ (z : X). c * f z) x xs ∙ ap (λ (n : ℕ). c * f x + n) (sum_times c f xs) ∙ sym (mul-add c (f x) (sum_by f xs)) ∙ ap (λ (n : ℕ). c * n) (sym (sum_by-cons f x xs))

-- as many as members
pub sum_ones : {X : Type 0} (xs : List X) → sum_by (λ x. 1) xs ≡ length xs
sum_ones [] = refl
sum_ones {X} (x ∷ xs) = let a = sum_by-cons (λ (z : X). 1) x xs in let b = sum_ones xs in omega arith

pub sum_most : {X : Type 0} (f : X → ℕ) (c : ℕ) (xs : List X) → ((x : X) → Contains xs x → f x ≤ c) → sum_by f xs ≤ c * length xs
sum_most {X} f c xs le =
    let a = sum_le f (λ (x : X). c * 1) xs (λ x has. let l = le x has in omega arith) in
    let b = sum_times c (λ (x : X). 1) xs in
    let d = ap (λ (n : ℕ). c * n) (sum_ones xs) in
    omega (arith, a, b, d)

pub sum_none : {X : Type 0} (f : X → ℕ) (xs : List X) → ((x : X) → f x ≡ 0) → sum_by f xs ≡ 0
sum_none f [] none = refl
sum_none f (x ∷ xs) none = let a = sum_by-cons f x xs in let b = none x in let c = sum_none f xs none in omega arith

-- a list without its member at a place
pub without : {X : Type 0} (weigh : X → ℕ) (xs : List X) (x : X) → Contains xs x
    → (ys : List X) × (sum_by weigh xs ≡ weigh x + sum_by weigh ys) × ((z : X) → Contains xs z → (z ≡ x) ⊎ Contains ys z)
without weigh [] x has = Contains-nil x has
without {X} weigh (y ∷ xs) x has = elim (Contains-cons_cases y xs x has) [
  | inl e ↦ (
    xs,
    sum_by-cons weigh y xs ∙ ap (λ (z : X). weigh z + sum_by weigh xs) e,
    λ z c. elim (Contains-cons_cases y xs z c) [ inl same ↦ inl (sym same ∙ e) | inr later ↦ inr later ],
  )
  | inr later ↦ (
      let r = without weigh xs x later in (
        y ∷ r.0,
        (let a = sum_by-cons weigh y xs in let b = sum_by-cons weigh y r.0 in let c = r.1 in omega arith),
        λ z c. elim (Contains-cons_cases y xs z c) [
          | inl same ↦ inr (subst (λ (k : X). Contains (y ∷ r.0) k) same (Contains-head y r.0))
          | inr more ↦ elim (r.2 z more) [ inl same ↦ inl same | inr kept ↦ inr (Contains-later y r.0 z kept) ]
        ],
      )
      )
]

-- different members, each of them one of a list or of no weight, weigh no more than the list
pub covered : {X : Type 0} (weigh : X → ℕ) (xs all : List X) → AreDifferent xs → ((x : X) → Contains xs x → Contains all x ⊎ (weigh x ≡ 0)) → sum_by weigh xs ≤ sum_by weigh all
covered weigh [] all different each = omega arith
covered {X} weigh (x ∷ xs) all different each = elim (each x (Contains-head x xs)) [
  | inl has ↦ (
      let r = without weigh all x has in
      let rest = covered weigh xs r.0 later (λ z c. elim (each z (Contains-later x xs z c)) [
        | inl there ↦ elim (r.2 z there) [ inl same ↦ absurd (other z c same) | inr kept ↦ inl kept ]
        | inr none ↦ inr none
      ]) in
      let a = sum_by-cons weigh x xs in
      let b = r.1 in
      omega arith
      )
  | inr none ↦ (
      let rest = covered weigh xs all later (λ z c. each z (Contains-later x xs z c)) in
      let a = sum_by-cons weigh x xs in
      omega arith
      )
]
  where
    later : AreDifferent xs
    later i j y a b = let e = different (suc i) (suc j) y a b in omega arith

    other : (z : X) → Contains xs z → z ≡ x → ⊥
    other z c same =
        let at : slice_get xs c.0 ≡ Some x = slice_get-get_or xs c.0 z c.1 ∙ ap (λ (k : X). Some k) (c.2 ∙ same) in
        let e = different (suc c.0) 0 x at refl in
        omega arith
