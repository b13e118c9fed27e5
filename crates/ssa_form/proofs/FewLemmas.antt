-- A join joins no more versions than lead to its point.
use Rattle.std.proofs.Common.{◌≡◌, ◌≤◌, ◌+◌, ℕ, suc, Bool, true, false, cond, if◌then◌else◌, List, [], ◌∷◌, ◌++◌, length, Option, Some, None, refl, ◌∙◌, ap, arith, slice_get, map, flat_map}
use Rattle.std.specs.Prelude.{nat_eq, nat_lt}
use Rattle.std.specs.List.{count_by}
use Rattle.std.proofs.lemmas.List.{map-append}
use Rattle.std.proofs.lemmas.List.Sums.{sum_by-cons, sum_by-append}
use Rattle.numbered_sets.specs.Places.{places_of}
use Rattle.flow_code.specs.Points.{PlainPoint, PlainFlowFunction, PlainFlow, points_in}
use Rattle.flow_code.specs.Lawful.{nexts}
use Rattle.flow_graph.specs.declared.arrivals.Arrival.{Arrival}
use Rattle.flow_graph.specs.declared.arrivals.Arrival.TheVariants.{Edge, Entry}
use Rattle.flow_graph.specs.Steps.{PlainStep, steps_of_points}
use Rattle.flow_graph.specs.Arrivals.{target, within, from_exits, from_steps, from_functions}
use Rattle.flow_graph.specs.Found.{number_in}
use Rattle.flow_graph.proofs.FoundLemmas.{number_is}
use Rattle.ssa_form.specs.declared.version.Version.{Version}
use Rattle.ssa_form.specs.Views.{versions_seen}
use Rattle.ssa_form.specs.Marks.{IsGraph}
use Rattle.ssa_form.specs.Joins.{AreRows}
use Rattle.ssa_form.specs.Versions.{row_of, arrivals_at}
use Rattle.ssa_form.specs.JoinRows.{row_in}
use Rattle.loose_sets.specs.Versions.{PlainVersion}

-- one or none
abbrev one_if : Bool → ℕ
one_if b = cond b 1 0

-- as many places as the number stands there
places_counted : (keys : List ℕ) (k i : ℕ) → length (places_of keys k i) ≡ count_by (λ q. nat_eq q k) keys
places_counted [] k i = refl
places_counted (key ∷ keys) k i = by (nat_eq key k) refl (places_counted keys k (i + 1))
  where
    more : count_by (λ q. nat_eq q k) (key ∷ keys) ≡ one_if (nat_eq key k) + count_by (λ q. nat_eq q k) keys
    more = sum_by-cons (λ (q : ℕ). one_if (nat_eq q k)) key keys

    by : (b : Bool) → nat_eq key k ≡ b → length (places_of keys k (i + 1)) ≡ count_by (λ q. nat_eq q k) keys
        → length (if b then i ∷ places_of keys k (i + 1) else places_of keys k (i + 1)) ≡ count_by (λ q. nat_eq q k) (key ∷ keys)
    by true e rest = let a = ap one_if e in omega (arith, rest, more, a)
    by false e rest = let a = ap one_if e in omega (arith, rest, more, a)

abbrev count_at : ℕ → List (ℕ × Arrival) → ℕ
count_at p all = count_by (λ q. nat_eq q p) (map target all)

count_append : (p : ℕ) (xs ys : List (ℕ × Arrival)) → count_at p (xs ++ ys) ≡ count_at p xs + count_at p ys
count_append p xs ys = ap (λ (ks : List ℕ). count_by (λ (q : ℕ). nat_eq q p) ks) (map-append target xs ys) ∙ sum_by-append (λ (q : ℕ). one_if (nat_eq q p)) (map target xs) (map target ys)

within_few : (p count : ℕ) (a : ℕ × Arrival) → count_at p (within count a) ≤ one_if (nat_eq a.0 p)
unfolding within
within_few p count a = by (nat_lt a.0 count)
  where
    by : (b : Bool) → count_at p (if b then a ∷ [] else []) ≤ one_if (nat_eq a.0 p)
    by true = omega arith
    by false = omega arith

exits_few : (p count q : ℕ) (ns : List ℕ) → count_at p (from_exits count q ns) ≤ count_by (λ n. nat_eq n p) ns
exits_few p count q [] = omega arith
exits_few p count q (n ∷ ns) =
    let a = count_append p (within count (n, Edge q)) (from_exits count q ns) in
    let b = within_few p count (n, Edge q) in
    let c = exits_few p count q ns in
    let d = sum_by-cons (λ (m : ℕ). one_if (nat_eq m p)) n ns in
    omega (arith, a, b, c, d)

steps_few : (p count q : ℕ) (points : List PlainPoint) → count_at p (from_steps count q (steps_of_points points)) ≤ count_by (λ n. nat_eq n p) (flat_map nexts points)
unfolding from_steps
steps_few p count q [] = omega arith
steps_few p count q (k ∷ ks) =
    let a = count_append p (from_exits count q (nexts k)) (from_steps count (suc q) (steps_of_points ks)) in
    let b = exits_few p count q (nexts k) in
    let c = steps_few p count (suc q) ks in
    let d = sum_by-append (λ (m : ℕ). one_if (nat_eq m p)) (nexts k) (flat_map nexts ks) in
    omega (arith, a, b, c, d)

functions_few : (p count f : ℕ) (gs : List PlainFlowFunction) → count_at p (from_functions count f gs) ≤ count_by (λ (g : PlainFlowFunction). nat_eq g.entry_of p) gs
unfolding from_functions
functions_few p count f [] = omega arith
functions_few p count f (g ∷ gs) =
    let a = count_append p (within count (g.entry_of, Entry f)) (from_functions count (suc f) gs) in
    let b = within_few p count (g.entry_of, Entry f) in
    let c = functions_few p count (suc f) gs in
    let d = sum_by-cons (λ (h : PlainFlowFunction). one_if (nat_eq h.entry_of p)) g gs in
    omega (arith, a, b, c, d)

-- what leads to a point is counted by edges and entries
pub arrivals_few : (flow : PlainFlow) (steps : List PlainStep) (all : List (ℕ × Arrival)) (heads : List ℕ) → IsGraph flow steps all heads → (p : ℕ) → length (places_of (map target all) p 0) ≤ arrivals_at flow p
unfolding arrivals_at
arrivals_few flow steps all heads graph p =
    let n = length steps in
    let points = points_in flow.functions_of in
    let a = places_counted (map target all) p 0 in
    let b = ap (count_at p) graph.all_are in
    let c = count_append p (from_steps n 0 steps) (from_functions n 0 flow.functions_of) in
    let d = ap (λ (ss : List PlainStep). count_at p (from_steps n 0 ss)) graph.steps_are in
    let e = steps_few p n 0 points in
    let f = functions_few p n 0 flow.functions_of in
    omega (arith, a, b, c, d, e, f)

-- the row of a join has no more versions than that
pub joined_few : (flow : PlainFlow) (heads : List ℕ) (behind : ℕ → ℕ → PlainVersion) (all : List (ℕ × Arrival)) (firsts asks : List (ℕ × ℕ)) (rows : List (List Version))
    → AreRows flow.functions_of heads behind all firsts asks rows → ((p : ℕ) → length (places_of (map target all) p 0) ≤ arrivals_at flow p) → (p x : ℕ) → length (row_of rows (number_in asks p x)) ≤ arrivals_at flow p
joined_few flow heads behind all firsts asks rows made few p x = by (number_in asks p x) refl
  where
    by : (o : Option ℕ) → number_in asks p x ≡ o → length (row_of rows o) ≤ arrivals_at flow p
    by None e = omega arith
    by (Some i) e = at (slice_get rows i) refl
      where
        at : (o : Option (List Version)) → slice_get rows i ≡ o → length (versions_seen (row_in o)) ≤ arrivals_at flow p
        at None there = omega arith
        at (Some r) there = let a = (made.each i p x r (number_is asks (p, x) i e) there).few in let b = few p in omega (arith, a, b)
