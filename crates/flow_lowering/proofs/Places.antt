-- The place of a name among different names.
use Rattle.std.proofs.Common.{◌≡◌, ◌∙◌, ℕ, zero, suc, true, false, List, [], ◌∷◌, length, refl, sym, ap, arith, Some, slice_get}
use Rattle.std.specs.Prelude.{bytes_eq, if◌then◌else◌, Bool, Contains}
use Rattle.std.proofs.lemmas.Slice.Eq.{bytes_eq-Decides}
use Rattle.numbered_sets.specs.Numbers.{AreDifferent}
use Rattle.flow_code.specs.Variables.{Name, place_of}

if_so : {X : Type 0} (b : Bool) (x y : X) → b ≡ true → (if b then x else y) ≡ x
if_so true x y e = refl
if_so false x y e = absurd (cc)

if_not : {X : Type 0} (b : Bool) (x y : X) → b ≡ false → (if b then x else y) ≡ y
if_not false x y e = refl
if_not true x y e = absurd (cc)

not_true : (b : Bool) → (b ≡ true → ⊥) → b ≡ false
not_true true h = absurd (h refl)
not_true false h = refl

different_behind : (y : Name) (ys : List Name) → AreDifferent (y ∷ ys) → AreDifferent ys
different_behind y ys d i j x p q = let e : suc i ≡ suc j = d (suc i) (suc j) x p q in omega arith

pub place_found : (names : List Name) (x : Name) (n : ℕ) → AreDifferent names → slice_get names n ≡ Some x → place_of x names ≡ n
unfolding place_of
place_found [] x n d h = absurd (cc)
place_found (y ∷ ys) x zero d h = let e : x ≡ y = cc in if_so (bytes_eq x y) 0 (suc (place_of x ys)) ((bytes_eq-Decides x y).1 e)
place_found (y ∷ ys) x (suc n) d h =
    let other : bytes_eq x y ≡ true → ⊥ = λ b. (let e : x ≡ y = (bytes_eq-Decides x y).0 b in let z : zero ≡ suc n = d zero (suc n) x (ap Some (sym e)) h in cc) in
    if_not (bytes_eq x y) 0 (suc (place_of x ys)) (not_true (bytes_eq x y) other) ∙ ap suc (place_found ys x n (different_behind y ys d) h)

pub place_absent : (names : List Name) (x : Name) → (Contains names x → ⊥) → place_of x names ≡ length names
unfolding place_of
place_absent [] x h = refl
place_absent (y ∷ ys) x h =
    let other : bytes_eq x y ≡ true → ⊥ = λ b. h (0, omega arith, sym ((bytes_eq-Decides x y).0 b)) in
    if_not (bytes_eq x y) 0 (suc (place_of x ys)) (not_true (bytes_eq x y) other) ∙ ap suc (place_absent ys x (λ c. h (suc c.0, omega (arith, c.1), c.2)))
