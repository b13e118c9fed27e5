-- The pairs that are listed for a function are those that it returns.
use Rattle.std.proofs.Common.{◌≡◌, ◌≤◌, ◌<◌, ◌+◌, ◌⊎◌, inl, inr, ℕ, zero, suc, List, [], ◌∷◌, ◌++◌, length, Option, Some, None, refl, sym, subst, ap, ◌∙◌, arith, slice_get, Contains}
use Rattle.std.proofs.lemmas.Option.{same_Some}
use Rattle.std.proofs.lemmas.Bool.{cases_eq}
use Rattle.std.proofs.lemmas.List.Elements.{Contains-append_left, Contains-append_right, Contains-append_cases}
use Rattle.flow_code.specs.Points.{PlainPoint, set_point, call_point, print_point, echo_point, branch_point, jump_point, begin_point, next_point, key_point, value_point, return_point, quit_point, PlainFlowFunction, PlainFlow, points_in, point_at, function_at}
use Rattle.flow_code.specs.Lawful.{IsOwnPoint}
use Rattle.loose_sets.specs.Functions.{IsReturned, ArePairs}
use Rattle.flow_graph.specs.Returned.{returned_slot, return_slots, paired, returned_from, returned_pairs}

pub none_in : {X : Type 0} (x : X) → Contains [] x → ⊥
none_in x c = let h = c.1 in omega arith

pub only_one : {X : Type 0} (a x : X) → Contains (a ∷ []) x → a ≡ x
only_one a x (zero, within, e) = e
only_one a x (suc n, within, e) = absurd (omega (arith, within))

pub it_alone : {X : Type 0} (x : X) → Contains (x ∷ []) x
it_alone x = (zero, omega arith, refl)

is_return : (k : PlainPoint) (y : ℕ) → returned_slot k ≡ Some y → k ≡ return_point y
unfolding returned_slot
is_return (return_point x) y e = ap return_point (same_Some x y e)
is_return (set_point x s next) y e = absurd (cc)
is_return (call_point x n args next) y e = absurd (cc)
is_return (print_point bytes next) y e = absurd (cc)
is_return (echo_point x next) y e = absurd (cc)
is_return (branch_point x a b) y e = absurd (cc)
is_return (jump_point next) y e = absurd (cc)
is_return (begin_point x from next) y e = absurd (cc)
is_return (next_point x more done) y e = absurd (cc)
is_return (key_point x from next) y e = absurd (cc)
is_return (value_point x from next) y e = absurd (cc)
is_return (quit_point x) y e = absurd (cc)

-- one point
from_one : (o : Option PlainPoint) (q : ℕ) (t : ℕ × ℕ) → Contains (paired q (return_slots o)) t → (q ≡ t.0) × (o ≡ Some (return_point t.1))
from_one None q t c = absurd (none_in t c)
from_one (Some k) q t c = by (returned_slot k) refl c
  where
    by : (s : Option ℕ) → returned_slot k ≡ s → Contains (paired q s) t → (q ≡ t.0) × (Some k ≡ Some (return_point t.1))
    by None e c = absurd (none_in t c)
    by (Some y) e c =
        let same : ◌≡◌ {A = ℕ × ℕ} (q, y) t = only_one (q, y) t c in
        (ap (λ (z : ℕ × ℕ). z.0) same, ap (λ (z : PlainPoint). Some z) (is_return k y e ∙ ap (λ (z : ℕ × ℕ). return_point z.1) same))

into_one : (o : Option PlainPoint) (t : ℕ × ℕ) → o ≡ Some (return_point t.1) → Contains (paired t.0 (return_slots o)) t
unfolding returned_slot
into_one o t e = subst (λ (z : Option PlainPoint). Contains (paired t.0 (return_slots z)) t) (sym e) (it_alone t)

-- the points from a number on
pub from_returned : (points : List PlainPoint) (q n : ℕ) (t : ℕ × ℕ) → Contains (returned_from points q n) t → (q ≤ t.0) × (t.0 < q + n) × (slice_get points t.0 ≡ Some (return_point t.1))
unfolding returned_from
from_returned points q zero t c = absurd (none_in t c)
from_returned points q (suc n) t c = by (Contains-append_cases (paired q (return_slots (slice_get points q))) (returned_from points (suc q) n) t c) (from_returned points (suc q) n t)
  where
    by : Contains (paired q (return_slots (slice_get points q))) t ⊎ Contains (returned_from points (suc q) n) t → (Contains (returned_from points (suc q) n) t → (suc q ≤ t.0) × (t.0 < suc q + n) × (slice_get points t.0 ≡ Some (return_point t.1)))
        → (q ≤ t.0) × (t.0 < q + suc n) × (slice_get points t.0 ≡ Some (return_point t.1))
    by (inl here) below =
        let one = from_one (slice_get points q) q t here in
        let same : q ≡ t.0 = one.0 in
        (omega (arith, same), omega (arith, same), subst (λ (p : ℕ). slice_get points p ≡ Some (return_point t.1)) same one.1)
    by (inr later) below =
        let rest = below later in
        let low : suc q ≤ t.0 = rest.0 in
        let high : t.0 < suc q + n = rest.1 in
        (omega (arith, low), omega (arith, high), rest.2)

pub into_returned : (points : List PlainPoint) (q n : ℕ) (t : ℕ × ℕ) → q ≤ t.0 → t.0 < q + n → slice_get points t.0 ≡ Some (return_point t.1) → Contains (returned_from points q n) t
unfolding returned_from
into_returned points q zero t low high there = absurd (omega (arith, low, high))
into_returned points q (suc n) t low high there = by (cases_eq q t.0) (λ l h. into_returned points (suc q) n t l h there)
  where
    by : (q ≡ t.0) ⊎ (q ≡ t.0 → ⊥) → (suc q ≤ t.0 → t.0 < suc q + n → Contains (returned_from points (suc q) n) t) → Contains (paired q (return_slots (slice_get points q)) ++ returned_from points (suc q) n) t
    by (inl same) below =
        Contains-append_left (paired q (return_slots (slice_get points q))) (returned_from points (suc q) n) t
        (subst (λ (p : ℕ). Contains (paired p (return_slots (slice_get points p))) t) (sym same) (into_one (slice_get points t.0) t there))
    by (inr other) below =
        Contains-append_right (paired q (return_slots (slice_get points q))) (returned_from points (suc q) n) t (below (omega (arith, low, other)) (omega (arith, high)))

-- what the function of a number returns
pub returned_law : (flow : PlainFlow) (n : ℕ) (g : PlainFlowFunction) → function_at flow n ≡ Some g → ArePairs (IsReturned flow n) (returned_pairs (points_in flow.functions_of) g)
unfolding point_at
returned_law flow n g is p x = (
  λ c.
      let it = from_returned (points_in flow.functions_of) g.first_point_of (length g.points_of) (p, x) c in
      record { function = g; is = is; inside = record { least = it.0; most = it.1 }; there = it.2 },
  λ r.
      let same : r.function ≡ g = same_Some r.function g (sym r.is ∙ is) in
      let own : IsOwnPoint g p = subst (λ (h : PlainFlowFunction). IsOwnPoint h p) same r.inside in
      into_returned (points_in flow.functions_of) g.first_point_of (length g.points_of) (p, x) own.least own.most r.there,
)
