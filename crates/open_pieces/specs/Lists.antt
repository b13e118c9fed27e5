-- Equality of lists of lists is exact, and of two or three parts where that of each is.
use Rattle.std.specs.Prelude.{◌≡◌, ◌&&◌, ℕ, Bool, true, false, List, [], ◌∷◌, nat_eq, refl}
use Rattle.std.specs.Bool.{beq}
use Rattle.std.specs.Cmp.{first_so, second_so}
use Rattle.std.specs.Cmp.Lexicographic.{pointwise}
use Rattle.std.proofs.Common.{ap, ◌∙◌}
use Rattle.text_base.specs.Exactness.{IsExact, exact_bytes}

-- lists of lists of bytes that are found equal are one
pub exact_lists : (xs ys : List (List ℕ)) → pointwise (pointwise nat_eq) xs ys ≡ true → xs ≡ ys
exact_lists [] [] h = refl
exact_lists [] (y ∷ ys) h = cc
exact_lists (x ∷ xs) [] h = cc
exact_lists (x ∷ xs) (y ∷ ys) h =
    let e : x ≡ y = exact_bytes x y (first_so (pointwise nat_eq x y) (pointwise (pointwise nat_eq) xs ys) h) in
    let f : xs ≡ ys = exact_lists xs ys (second_so (pointwise nat_eq x y) (pointwise (pointwise nat_eq) xs ys) h) in
    ap (λ (z : List ℕ). z ∷ xs) e ∙ ap (λ (zs : List (List ℕ)). y ∷ zs) f

-- of truth values
pub exact_bool : (a b : Bool) → beq a b ≡ true → a ≡ b
exact_bool true true e = refl
exact_bool true false e = cc
exact_bool false true e = cc
exact_bool false false e = refl

-- of two parts, and of three
pub both : {A B : Type 0} {eq : A → A → Bool} {same : B → B → Bool} → IsExact eq → IsExact same → (a c : A) (b d : B)
    → (eq a c && same b d) ≡ true → ◌≡◌ {A = A × B} (a, b) (c, d)
both {A} {B} {eq} {same} first second a c b d e =
    let p : a ≡ c = first a c (first_so (eq a c) (same b d) e) in
    let q : b ≡ d = second b d (second_so (eq a c) (same b d) e) in
    ap (λ (x : A). let w : A × B = (x, b) in w) p ∙ ap (λ (y : B). let w : A × B = (c, y) in w) q

-- triples are one where the three tests of their parts are exact and hold
pub three : {A B C : Type 0} {eq : A → A → Bool} {same : B → B → Bool} {like : C → C → Bool} → IsExact eq → IsExact same → IsExact like
    → (a c : A) (b d : B) (x y : C) → (eq a c && (same b d && like x y)) ≡ true → ◌≡◌ {A = A × (B × C)} (a, (b, x)) (c, (d, y))
three {A} {B} {C} {eq} {same} {like} first second third a c b d x y e =
    let p : a ≡ c = first a c (first_so (eq a c) (same b d && like x y) e) in
    let rest : (same b d && like x y) ≡ true = second_so (eq a c) (same b d && like x y) e in
    let q : b ≡ d = second b d (first_so (same b d) (like x y) rest) in
    let r : x ≡ y = third x y (second_so (same b d) (like x y) rest) in
    cc
