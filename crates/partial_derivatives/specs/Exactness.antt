-- Equality of rows is exact.
use Rattle.std.specs.Prelude.{◌≡◌, true, List, [], ◌∷◌, Bool, refl}
use Rattle.std.specs.Cmp.{first_so, second_so}
use Rattle.std.specs.Cmp.Lexicographic.{pointwise}
use Rattle.std.proofs.Common.{ap, ◌∙◌}
use Rattle.text_base.specs.Exactness.{IsExact}

-- rows that are found equal are one, where that holds of their values
pub exact_row : {T : Type 0} {eq : T → T → Bool} → IsExact eq → (xs ys : List T) → pointwise eq xs ys ≡ true → xs ≡ ys
exact_row e [] [] h = refl
exact_row e [] (y ∷ ys) h = cc
exact_row e (x ∷ xs) [] h = cc
exact_row {T} {eq} e (x ∷ xs) (y ∷ ys) h =
    let p : x ≡ y = e x y (first_so (eq x y) (pointwise eq xs ys) h) in
    let q : xs ≡ ys = exact_row e xs ys (second_so (eq x y) (pointwise eq xs ys) h) in
    ap (λ (z : T). z ∷ xs) p ∙ ap (λ (zs : List T). y ∷ zs) q
