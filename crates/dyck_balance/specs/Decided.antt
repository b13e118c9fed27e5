-- Two sums that `==` finds equal are one.
use Rattle.std.specs.Prelude.{◌≡◌, ℕ, true, List, nat_eq, refl}
use Rattle.std.specs.Bool.{Decides}
use Rattle.std.specs.Cmp.{IsEquivalence, IsPartialEquivalence, partial_equiv_from_equiv, decided, unsigned_Decides, first_so, second_so}
use Rattle.std.specs.Cmp.Lexicographic.{pointwise, pointwise_decides}
use Rattle.std.proofs.Common.{ap, subst, ◌∙◌}
use Rattle.tag_sums.specs.Nesting.{Nest, torn, nest}
use Rattle.dyck_balance.specs.Equal.{nest_eq, nest_fed}

-- two sums that are found equal are one
pub nest_exact : (a b : Nest) → nest_eq a b ≡ true → a ≡ b
nest_exact torn torn h = refl
nest_exact torn (nest d p) h = cc
nest_exact (nest c o) torn h = cc
nest_exact (nest c o) (nest d p) h =
    ap (λ (t : List ℕ). nest t o) ((pointwise_decides unsigned_Decides c d).0 (first_so (pointwise nat_eq c d) (pointwise nat_eq o p) h))
    ∙ ap (λ (t : List ℕ). nest d t) ((pointwise_decides unsigned_Decides o p).0 (second_so (pointwise nat_eq c d) (pointwise nat_eq o p) h))

nest_itself : (a : Nest) → nest_eq a a ≡ true
nest_itself torn = refl
nest_itself (nest c o) =
    let x = (pointwise_decides unsigned_Decides c c).1 refl in
    let y = (pointwise_decides unsigned_Decides o o).1 refl in
    rw (x, y) refl

nest_decides : (a b : Nest) → Decides (nest_eq a b) (a ≡ b)
nest_decides a b = (nest_exact a b, λ e. subst (λ (s : Nest). nest_eq a s ≡ true) e (nest_itself a))

-- sums that are found equal give the same to a hasher
pub nest_alike : (a b : Nest) → nest_eq a b ≡ true → nest_fed a ≡ nest_fed b
nest_alike a b h = ap nest_fed (nest_exact a b h)

-- the test of two sums is reflexive, symmetric and transitive
pub nest_equiv : IsEquivalence nest_eq
nest_equiv = decided nest_eq nest_decides

-- the test of two sums is symmetric and transitive
pub nest_per : IsPartialEquivalence nest_eq
nest_per = partial_equiv_from_equiv nest_equiv
