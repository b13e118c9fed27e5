-- There is at most one join for each point and each read, and joins join no more than what leads to their points.
use Rattle.std.proofs.Common.{◌≡◌, ◌≤◌, ◌<◌, ◌+◌, ◌*◌, inl, ℕ, suc, Bool, true, false, cond, List, [], ◌∷◌, refl, ap, ◌∙◌, arith, Contains, length, map}
use Rattle.std.specs.Prelude.{flat_map, nat_eq}
use Rattle.std.specs.List.{sum_by, count_by}
use Rattle.std.proofs.Math.Nat.{mul-le-mul_right}
use Rattle.std.proofs.lemmas.Bool.{eqb-true}
use Rattle.std.proofs.lemmas.List.Sums.{sum_by-cons}
use Rattle.std.proofs.lemmas.List.Concat.{length-flat_map}
use Rattle.useful_nonterminals.proofs.RuleLemmas.{flat_map_has}
use Rattle.flow_code.specs.Points.{PlainPoint, PlainFlowFunction, PlainFlow, points_in, point_at}
use Rattle.flow_code.specs.Lawful.{reads, nexts}
use Rattle.ssa_form.specs.declared.versions.Versions.{Versions}
use Rattle.ssa_form.specs.Versions.{asks_of, joined_by, arrivals_at, AreOnce, AreJoins}
use Rattle.loose_sets.proofs.Lists.{map_has, from_place}
use Rattle.extraction.specs.Sizes.{points_count, reads_count, joins_count, links_count}
use Rattle.extraction.proofs.Sums.{sum_flat, sum_map, sum_le, sum_same, sum_add, sum_none, sum_ones, sum_most, sum_times_right, covered}
use Rattle.extraction.proofs.Universe.{places, places_length, place_in}
use Rattle.extraction.proofs.Counts.{edges_length}

abbrev one_if : Bool → ℕ
one_if b = cond b 1 0

-- a number is one of those of a list's places at most once
place_none : {X : Type 0} (y i : ℕ) (xs : List X) → y < i → sum_by (λ p. one_if (nat_eq y p)) (places i xs) ≡ 0
place_none y i [] less = refl
place_none y i (x ∷ xs) less =
    let a = sum_by-cons (λ (p : ℕ). one_if (nat_eq y p)) i (places (suc i) xs) in
    let b = place_none y (suc i) xs (omega (arith, less)) in
    let c = by (nat_eq y i) refl in
    omega (arith, a, b, c)
  where
    by : (b : Bool) → nat_eq y i ≡ b → one_if (nat_eq y i) ≡ 0
    by false e = ap one_if e
    by true e = absurd (let h = eqb-true y i e in omega (arith, h, less))

place_one : {X : Type 0} (y i : ℕ) (xs : List X) → sum_by (λ p. one_if (nat_eq y p)) (places i xs) ≤ 1
place_one y i [] = omega arith
place_one y i (x ∷ xs) = by (nat_eq y i) refl (place_one y (suc i) xs)
  where
    by : (b : Bool) → nat_eq y i ≡ b → sum_by (λ p. one_if (nat_eq y p)) (places (suc i) xs) ≤ 1 → sum_by (λ p. one_if (nat_eq y p)) (places i (x ∷ xs)) ≤ 1
    by false e rest =
        let a = sum_by-cons (λ (p : ℕ). one_if (nat_eq y p)) i (places (suc i) xs) in
        let c : one_if (nat_eq y i) ≡ 0 = ap one_if e in
        omega (arith, a, c, rest)
    by true e rest =
        let a = sum_by-cons (λ (p : ℕ). one_if (nat_eq y p)) i (places (suc i) xs) in
        let c : one_if (nat_eq y i) ≡ 1 = ap one_if e in
        let h = eqb-true y i e in
        let d = place_none y (suc i) xs (omega (arith, h)) in
        omega (arith, a, c, d)

-- so each member of a list is counted at most once
counted_once : {X Y : Type 0} (f : Y → ℕ) (xs : List X) (ys : List Y) → sum_by (λ p. count_by (λ y. nat_eq (f y) p) ys) (places 0 xs) ≤ length ys
counted_once {X} {Y} f xs [] = let a = sum_none (λ (p : ℕ). count_by (λ (y : Y). nat_eq (f y) p) []) (places 0 xs) (λ p. refl) in omega (arith, a)
counted_once {X} {Y} f xs (y ∷ ys) =
    let a = sum_same (λ (p : ℕ). count_by (λ (y : Y). nat_eq (f y) p) (y ∷ ys)) (λ (p : ℕ). one_if (nat_eq (f y) p) + count_by (λ (y : Y). nat_eq (f y) p) ys) (places 0 xs)
    (λ p. sum_by-cons (λ (z : Y). one_if (nat_eq (f z) p)) y ys) in
    let b = sum_add (λ (p : ℕ). one_if (nat_eq (f y) p)) (λ (p : ℕ). count_by (λ (y : Y). nat_eq (f y) p) ys) (places 0 xs) in
    let c = place_one (f y) 0 xs in
    let d = counted_once f xs ys in
    omega (arith, a, b, c, d)

module _ (flow : PlainFlow) (versions : Versions) (once : AreOnce versions) (joins : AreJoins flow versions) where
  abbrev points : List PlainPoint
  points = points_in flow.functions_of

  abbrev asks : List (ℕ × ℕ)
  asks = asks_of versions

  abbrev slots : List ℕ
  slots = flat_map reads points

  -- each point with each slot that is read
  abbrev with_slots : ℕ → List (ℕ × ℕ)
  with_slots p = map (λ x. (p, x)) slots

  abbrev pairs : List (ℕ × ℕ)
  pairs = flat_map with_slots (places 0 points)

  asked_has : (k : ℕ × ℕ) → Contains asks k → Contains pairs k
  unfolding point_at
  asked_has k has =
      let at = joins.there k.0 k.1 has in
      let read = joins.read k.0 k.1 has in
      let slot = flat_map_has reads points read.point k.1 (from_place points read.number read.point read.there) read.it in
      flat_map_has with_slots (places 0 points) k.0 k (place_in points k.0 at.0 at.1) (map_has (λ (x : ℕ). (k.0, x)) slots k.1 slot)

  slots_length : length slots ≡ reads_count flow
  unfolding reads_count
  slots_length = length-flat_map reads points

  -- a sum over all pairs, by the points
  pairs_most : (weigh : ℕ → ℕ) → sum_by (λ k. weigh k.0) pairs ≤ sum_by weigh (places 0 points) * reads_count flow
  pairs_most weigh =
      let a = sum_flat (λ (k : ℕ × ℕ). weigh k.0) with_slots (places 0 points) in
      let b = sum_le (λ (p : ℕ). sum_by (λ (k : ℕ × ℕ). weigh k.0) (with_slots p)) (λ (p : ℕ). weigh p * reads_count flow) (places 0 points) (λ p has. one p) in
      let c = sum_times_right weigh (reads_count flow) (places 0 points) in
      omega (arith, a, b, c)
    where
      one : (p : ℕ) → sum_by (λ k. weigh k.0) (with_slots p) ≤ weigh p * reads_count flow
      one p =
          let a = sum_map (λ (k : ℕ × ℕ). weigh k.0) (λ (x : ℕ). (p, x)) slots in
          let b = sum_most (λ (x : ℕ). weigh p) (weigh p) slots (λ x has. omega arith) in
          let c = ap (λ (n : ℕ). weigh p * n) slots_length in
          omega (arith, a, b, c)

  pub joins_few : joins_count versions ≤ points_count flow * reads_count flow
  unfolding points_count
  joins_few =
      let a = sum_ones asks in
      let b = covered (λ (k : ℕ × ℕ). 1) asks pairs once (λ k has. inl (asked_has k has)) in
      let c = pairs_most (λ p. 1) in
      let d = ap (λ (n : ℕ). n * reads_count flow) (sum_ones (places 0 points) ∙ places_length 0 points) in
      omega (arith, a, b, c, d)

  arrivals_all : sum_by (arrivals_at flow) (places 0 points) ≤ 2 * points_count flow + length flow.functions_of
  unfolding arrivals_at points_count
  arrivals_all =
      let a = sum_add (λ (p : ℕ). count_by (λ (q : ℕ). nat_eq q p) (flat_map nexts points)) (λ (p : ℕ). count_by (λ (g : PlainFlowFunction). nat_eq g.entry_of p) flow.functions_of) (places 0 points) in
      let b = counted_once (λ (q : ℕ). q) points (flat_map nexts points) in
      let c = counted_once (λ (g : PlainFlowFunction). g.entry_of) points flow.functions_of in
      let d = edges_length points in
      omega (arith, a, b, c, d)

  pub links_few : links_count versions ≤ (2 * points_count flow + length flow.functions_of) * reads_count flow
  links_few =
      let a = sum_le (λ (k : ℕ × ℕ). length (joined_by versions k.0 k.1)) (λ (k : ℕ × ℕ). arrivals_at flow k.0) asks (λ k has. joins.few k.0 k.1) in
      let b = covered (λ (k : ℕ × ℕ). arrivals_at flow k.0) asks pairs once (λ k has. inl (asked_has k has)) in
      let c = pairs_most (arrivals_at flow) in
      let d = times (sum_by (arrivals_at flow) (places 0 points)) (2 * points_count flow + length flow.functions_of) (reads_count flow) arrivals_all in
      omega (arith, a, b, c, d)
    where
      times : (a b k : ℕ) → a ≤ b → a * k ≤ b * k
      times a b k h = mul-le-mul_right k h
