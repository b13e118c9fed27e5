-- How many slots, calls and returns a program has.
use Rattle.std.proofs.Common.{◌≡◌, ◌≤◌, ◌<◌, ◌+◌, ◌*◌, ◌&&◌, ℕ, zero, suc, Bool, true, false, cond, List, [], ◌∷◌, ◌++◌, Option, Some, None, refl, ap, ◌∙◌, arith, slice_get, length}
use Rattle.std.specs.Prelude.{flat_map, nat_eq}
use Rattle.std.specs.List.{sum_by, count_by}
use Rattle.std.proofs.lemmas.Bool.{eqb-true}
use Rattle.std.proofs.lemmas.List.{length-map, length-append}
use Rattle.std.proofs.lemmas.List.Sums.{sum_by-cons, sum_by-append}
use Rattle.flow_code.specs.Points.{PlainPoint, call_point, branch_point, next_point, return_point, quit_point, PlainFlowFunction, points_in}
use Rattle.flow_code.specs.Lawful.{nexts}
use Rattle.flow_graph.specs.Handed.{Handing, of_call, params_of, at_point, handings_from, has_key}
use Rattle.flow_graph.specs.Returned.{paired, return_slots, returned_from}
use Rattle.extraction.specs.Sizes.{point_parts}
use Rattle.extraction.proofs.Sums.{sum_add, sum_map, sum_none}
use Rattle.extraction.proofs.Universe.{run, run_length, places, places_length, both_members, aspects, own_slots, entry_slots, called_by}

-- aspects
pub aspects_length : {X : Type 0} (told : List X) → length (aspects told) ≡ 5 + 2 * length told
aspects_length told = let a = both (places 0 told) in let b = places_length 0 told in omega (arith, a, b)
  where
    both : (is : List ℕ) → length (flat_map both_members is) ≡ 2 * length is
    both [] = refl
    both (i ∷ is) = let a = both is in omega (arith, a)

-- slots
pub slots_length : (f : ℕ) (fs : List PlainFlowFunction) → length (entry_slots f fs) ≡ sum_by (λ (g : PlainFlowFunction). g.slots_of) fs
slots_length f [] = refl
slots_length f (g ∷ gs) =
    let a = length-append (own_slots f g) (entry_slots (suc f) gs) in
    let b = length-map {B = ℕ × ℕ} (run g.first_slot_of g.slots_of) (λ (x : ℕ). (f, x)) in
    let c = run_length g.first_slot_of g.slots_of in
    let d = slots_length (suc f) gs in
    let e = sum_by-cons (λ (g : PlainFlowFunction). g.slots_of) g gs in
    omega (arith, a, b, c, d, e)

-- points
pub points_length : (fs : List PlainFlowFunction) → length (points_in fs) ≡ sum_by (λ (g : PlainFlowFunction). length g.points_of) fs
unfolding points_in
points_length [] = refl
points_length (g ∷ gs) =
    let a = length-append g.points_of (points_in gs) in
    let b = points_length gs in
    let c = sum_by-cons (λ (g : PlainFlowFunction). length g.points_of) g gs in
    omega (arith, a, b, c)

-- calls and edges
pub called_length : (points : List PlainPoint) → length (flat_map called_by points) ≤ length points
unfolding called_by
called_length [] = omega arith
called_length (k ∷ ks) = let a = length-append (called_by k) (flat_map called_by ks) in let b = called_length ks in let c = few k in omega (arith, a, b, c)
  where
    few : (k : PlainPoint) → length (called_by k) ≤ 1
    few (call_point x n args next) = omega arith
    few _ = omega arith

pub edges_length : (points : List PlainPoint) → length (flat_map nexts points) ≤ 2 * length points
unfolding nexts
edges_length [] = omega arith
edges_length (k ∷ ks) = let a = length-append (nexts k) (flat_map nexts ks) in let b = edges_length ks in let c = few k in omega (arith, a, b, c)
  where
    few : (k : PlainPoint) → length (nexts k) ≤ 2
    few (branch_point x a b) = omega arith
    few (next_point x more done) = omega arith
    few (return_point x) = omega arith
    few (quit_point x) = omega arith
    few _ = omega arith

-- returns
pub returned_length : (points : List PlainPoint) (q n : ℕ) → length (returned_from points q n) ≤ n
unfolding returned_from
returned_length points q zero = omega arith
returned_length points q (suc n) =
    let a = length-append (paired q (return_slots (slice_get points q))) (returned_from points (suc q) n) in
    let b = returned_length points (suc q) n in
    let c = few (return_slots (slice_get points q)) in
    omega (arith, a, b, c)
  where
    few : (o : Option ℕ) → length (paired q o) ≤ 1
    few None = omega arith
    few (Some y) = omega arith

-- arguments
pub handings_length : (fs : List PlainFlowFunction) (q : ℕ) (points : List PlainPoint) → length (handings_from fs q points) ≤ sum_by point_parts points
unfolding handings_from of_call at_point point_parts
handings_length fs q [] = omega arith
handings_length fs q (k ∷ ks) =
    let a = length-append (at_point fs q k) (handings_from fs (suc q) ks) in
    let b = handings_length fs (suc q) ks in
    let c = few k in
    let d = sum_by-cons point_parts k ks in
    omega (arith, a, b, c, d)
  where
    call_few : (q n : ℕ) (ys xs : List ℕ) → length (of_call q n ys xs) ≤ length xs
    call_few q n [] xs = omega arith
    call_few q n (y ∷ ys) [] = omega arith
    call_few q n (y ∷ ys) (x ∷ xs) = let a = call_few q n ys xs in omega (arith, a)

    few : (k : PlainPoint) → length (at_point fs q k) ≤ point_parts k
    few (call_point x n args next) = call_few q n (params_of (slice_get fs n)) args
    few _ = omega arith

-- one or none
abbrev one_if : Bool → ℕ
one_if b = cond b 1 0

run_none : (y i n : ℕ) → y < i → sum_by (λ x. one_if (nat_eq x y)) (run i n) ≡ 0
run_none y i zero less = refl
run_none y i (suc n) less =
    let a = sum_by-cons (λ (x : ℕ). one_if (nat_eq x y)) i (run (suc i) n) in
    let b = run_none y (suc i) n (omega (arith, less)) in
    let c : one_if (nat_eq i y) ≡ 0 = by (nat_eq i y) refl in
    omega (arith, a, b, c)
  where
    by : (b : Bool) → nat_eq i y ≡ b → one_if b ≡ 0
    by false e = refl
    by true e = absurd (let h = eqb-true i y e in omega (arith, h, less))

run_one : (y i n : ℕ) → sum_by (λ x. one_if (nat_eq x y)) (run i n) ≤ 1
run_one y i zero = omega arith
run_one y i (suc n) = by (nat_eq i y) refl (run_one y (suc i) n)
  where
    by : (b : Bool) → nat_eq i y ≡ b → sum_by (λ x. one_if (nat_eq x y)) (run (suc i) n) ≤ 1 → sum_by (λ x. one_if (nat_eq x y)) (i ∷ run (suc i) n) ≤ 1
    by false e rest =
        let a = sum_by-cons (λ (x : ℕ). one_if (nat_eq x y)) i (run (suc i) n) in
        let c : one_if (nat_eq i y) ≡ 0 = ap one_if e in
        omega (arith, a, c, rest)
    by true e rest =
        let a = sum_by-cons (λ (x : ℕ). one_if (nat_eq x y)) i (run (suc i) n) in
        let c : one_if (nat_eq i y) ≡ 1 = ap one_if e in
        let h = eqb-true i y e in
        let d = run_none y (suc i) n (omega (arith, h)) in
        omega (arith, a, c, d)

-- the slots of a function with the key of an item
own_keys : (f : ℕ) (g : PlainFlowFunction) (h : Handing) → sum_by (λ k. one_if (has_key k h)) (own_slots f g) ≡ sum_by (λ x. one_if (nat_eq f h.0.0 && nat_eq x h.0.1)) (run g.first_slot_of g.slots_of)
own_keys f g h = sum_map (λ (k : ℕ × ℕ). one_if (has_key k h)) (λ (x : ℕ). (f, x)) (run g.first_slot_of g.slots_of)

own_none : (f : ℕ) (g : PlainFlowFunction) (h : Handing) → nat_eq f h.0.0 ≡ false → sum_by (λ k. one_if (has_key k h)) (own_slots f g) ≡ 0
own_none f g h e = own_keys f g h ∙ sum_none (λ (x : ℕ). one_if (nat_eq f h.0.0 && nat_eq x h.0.1)) (run g.first_slot_of g.slots_of) (λ x. ap (λ (b : Bool). one_if (b && nat_eq x h.0.1)) e)

own_one : (f : ℕ) (g : PlainFlowFunction) (h : Handing) → nat_eq f h.0.0 ≡ true → sum_by (λ k. one_if (has_key k h)) (own_slots f g) ≤ 1
own_one f g h e =
    let a = own_keys f g h in
    let b = ap (λ (b : Bool). sum_by (λ (x : ℕ). one_if (b && nat_eq x h.0.1)) (run g.first_slot_of g.slots_of)) e in
    let c = run_one h.0.1 g.first_slot_of g.slots_of in
    omega (arith, a, b, c)

keys_none : (f : ℕ) (fs : List PlainFlowFunction) (h : Handing) → h.0.0 < f → sum_by (λ k. one_if (has_key k h)) (entry_slots f fs) ≡ 0
keys_none f [] h less = refl
keys_none f (g ∷ gs) h less =
    let a = sum_by-append (λ (k : ℕ × ℕ). one_if (has_key k h)) (own_slots f g) (entry_slots (suc f) gs) in
    let b = own_none f g h (by (nat_eq f h.0.0) refl) in
    let c = keys_none (suc f) gs h (omega (arith, less)) in
    omega (arith, a, b, c)
  where
    by : (b : Bool) → nat_eq f h.0.0 ≡ b → b ≡ false
    by false e = refl
    by true e = absurd (let t = eqb-true f h.0.0 e in omega (arith, t, less))

keys_one : (f : ℕ) (fs : List PlainFlowFunction) (h : Handing) → sum_by (λ k. one_if (has_key k h)) (entry_slots f fs) ≤ 1
keys_one f [] h = omega arith
keys_one f (g ∷ gs) h = by (nat_eq f h.0.0) refl (keys_one (suc f) gs h)
  where
    by : (b : Bool) → nat_eq f h.0.0 ≡ b → sum_by (λ k. one_if (has_key k h)) (entry_slots (suc f) gs) ≤ 1 → sum_by (λ k. one_if (has_key k h)) (own_slots f g ++ entry_slots (suc f) gs) ≤ 1
    by false e rest =
        let a = sum_by-append (λ (k : ℕ × ℕ). one_if (has_key k h)) (own_slots f g) (entry_slots (suc f) gs) in
        let b = own_none f g h e in
        omega (arith, a, b, rest)
    by true e rest =
        let a = sum_by-append (λ (k : ℕ × ℕ). one_if (has_key k h)) (own_slots f g) (entry_slots (suc f) gs) in
        let b = own_one f g h e in
        let t = eqb-true f h.0.0 e in
        let c = keys_none (suc f) gs h (omega (arith, t)) in
        omega (arith, a, b, c)

-- what is handed in for all slots together is no more than all that is handed in
pub handed_length : (fs : List PlainFlowFunction) (all : List Handing) → sum_by (λ k. count_by (has_key k) all) (entry_slots 0 fs) ≤ length all
handed_length fs [] = let a = sum_none (λ (k : ℕ × ℕ). count_by (has_key k) []) (entry_slots 0 fs) (λ k. refl) in omega (arith, a)
handed_length fs (h ∷ all) =
    let a = same (entry_slots 0 fs) in
    let b = sum_add (λ (k : ℕ × ℕ). one_if (has_key k h)) (λ (k : ℕ × ℕ). count_by (has_key k) all) (entry_slots 0 fs) in
    let c = keys_one 0 fs h in
    let d = handed_length fs all in
    omega (arith, a, b, c, d)
  where
    same : (ks : List (ℕ × ℕ)) → sum_by (λ k. count_by (has_key k) (h ∷ all)) ks ≡ sum_by (λ k. one_if (has_key k h) + count_by (has_key k) all) ks
    same [] = refl
    same (k ∷ ks) =
        let a = sum_by-cons (λ (k : ℕ × ℕ). count_by (has_key k) (h ∷ all)) k ks in
        let b = sum_by-cons (λ (k : ℕ × ℕ). one_if (has_key k h) + count_by (has_key k) all) k ks in
        let c = sum_by-cons (λ (z : Handing). one_if (has_key k z)) h all in
        let d = same ks in
        omega (arith, a, b, c, d)
