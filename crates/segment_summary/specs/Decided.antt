-- Two sums that `==` finds equal are one.
use Rattle.std.specs.Prelude.{◌≡◌, ℕ, Bool, true, ◌&&◌, List, Option, Some, None, nat_eq, refl}
use Rattle.std.specs.Bool.{Decides, beq}
use Rattle.std.specs.Cmp.{IsEquivalence, IsPartialEquivalence, partial_equiv_from_equiv, decided, unsigned_Decides, booleans_Decides, first_so, second_so}
use Rattle.std.specs.Cmp.Lexicographic.{pointwise, pointwise_decides}
use Rattle.std.specs.Option.{option_eq}
use Rattle.std.specs.Hash as fed
use Rattle.std.proofs.Common.{ap, subst, ◌∙◌}
use Rattle.tag_sums.specs.Sum.{Sum, broken, reduced}
use Rattle.segment_summary.specs.Equal.{sum_eq, sum_fed}

-- two sets of states are found equal exactly where they are one
pub states_decide : (a b : List Bool) → Decides (pointwise beq a b) (a ≡ b)
states_decide = pointwise_decides booleans_Decides

option_decides : (a b : Option ℕ) → Decides (option_eq nat_eq a b) (a ≡ b)
option_decides None None = (λ h. refl, λ h. refl)
option_decides None (Some b) = (λ h. cc, λ h. cc)
option_decides (Some a) None = (λ h. cc, λ h. cc)
option_decides (Some a) (Some b) = (λ h. ap Some ((unsigned_Decides a b).0 h), λ h. (unsigned_Decides a b).1 cc)

-- two sums that are found equal are one
pub sum_exact : (a b : Sum) → sum_eq a b ≡ true → a ≡ b
sum_exact broken broken h = refl
sum_exact broken (reduced d n p) h = cc
sum_exact (reduced c m o) broken h = cc
sum_exact (reduced c m o) (reduced d n p) h =
    let x = pointwise (pointwise beq) c d in
    let y = pointwise (option_eq nat_eq) m n in
    let z = pointwise nat_eq o p in
    let rest = second_so x (y && z) h in
    ap (λ (t : List (List Bool)). reduced t m o) ((pointwise_decides states_decide c d).0 (first_so x (y && z) h))
    ∙ ap (λ (t : List (Option ℕ)). reduced d t o) ((pointwise_decides option_decides m n).0 (first_so y z rest))
    ∙ ap (λ (t : List ℕ). reduced d n t) ((pointwise_decides unsigned_Decides o p).0 (second_so y z rest))

sum_itself : (a : Sum) → sum_eq a a ≡ true
sum_itself broken = refl
sum_itself (reduced c m o) =
    let x = (pointwise_decides states_decide c c).1 refl in
    let y = (pointwise_decides option_decides m m).1 refl in
    let z = (pointwise_decides unsigned_Decides o o).1 refl in
    rw (x, y, z) refl

-- two sums are found equal exactly where they are one
pub sum_decides : (a b : Sum) → Decides (sum_eq a b) (a ≡ b)
sum_decides a b = (sum_exact a b, λ e. subst (λ (s : Sum). sum_eq a s ≡ true) e (sum_itself a))

-- sets of states that are found equal give the same to a hasher
pub states_alike : (a b : List Bool) → pointwise beq a b ≡ true → fed.slice fed.bool a ≡ fed.slice fed.bool b
states_alike a b h = ap (fed.slice fed.bool) ((states_decide a b).0 h)

-- sums that are found equal give the same to a hasher
pub sum_alike : (a b : Sum) → sum_eq a b ≡ true → sum_fed a ≡ sum_fed b
sum_alike a b h = ap sum_fed ((sum_decides a b).0 h)

-- the test of two sums is reflexive, symmetric and transitive
pub sum_equiv : IsEquivalence sum_eq
sum_equiv = decided sum_eq sum_decides

-- the test of two sums is symmetric and transitive
pub sum_per : IsPartialEquivalence sum_eq
sum_per = partial_equiv_from_equiv sum_equiv
