-- Small tests.
use Rattle.std.proofs.Common.{◌≡◌, ℕ, Bool, true, false, ◌&&◌, ◌||◌, List, Option, Some, refl, arith, sym, ◌∙◌, ap}
use Rattle.std.specs.Prelude.{if◌then◌else◌, nat_eq}
use Rattle.std.proofs.lemmas.Bool.{eqb-true}
use Rattle.std.proofs.lemmas.Bool.Decides.{nat_tests}

pub some_same : (x y : List ℕ) → (let z : Option (List ℕ) = Some x in z ≡ Some y) → x ≡ y
some_same x y e = cc

pub or_parts : (a b : Bool) → (a || b) ≡ false → (a ≡ false) × (b ≡ false)
or_parts true b e = cc
or_parts false b e = (refl, e)

pub or_none : (a b : Bool) → a ≡ false → b ≡ false → (a || b) ≡ false
or_none true b e f = e
or_none false b e f = f

pub and_none : (a b : Bool) → a ≡ false → (a && b) ≡ false
and_none true b e = cc
and_none false b e = refl

pub and_second : (a b : Bool) → b ≡ false → (a && b) ≡ false
and_second true b e = e
and_second false b e = refl

-- equality from the other side
pub turned_eq : (a b : ℕ) → nat_eq a b ≡ nat_eq b a
turned_eq a b = at (nat_eq a b) (nat_eq b a) refl refl
  where
    flip : (a b : ℕ) → nat_eq a b ≡ true → nat_eq b a ≡ true
    flip a b e = grind (arith, nat_tests)

    at : (x y : Bool) → nat_eq a b ≡ x → nat_eq b a ≡ y → x ≡ y
    at true true e f = refl
    at true false e f = sym (flip a b e) ∙ f
    at false true e f = sym e ∙ flip b a f
    at false false e f = refl

pub not_it : (a b : ℕ) → nat_eq a b ≡ false → nat_eq b a ≡ false
not_it a b e = turned_eq b a ∙ e

pub is_it : (a b : ℕ) → nat_eq a b ≡ true → a ≡ b
is_it a b e = eqb-true a b e
