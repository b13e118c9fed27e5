-- A system that is made of a program's sets is no larger than the program and its versions allow.
use Rattle.std.proofs.Common.{◌≡◌, ◌≤◌, ◌+◌, ◌*◌, ◌⊎◌, inl, inr, ℕ, List, [], Option, Some, None, refl, sym, subst, ap, ◌∙◌, arith, slice_get, Contains, length, map}
use Rattle.std.specs.Prelude.{flat_map}
use Rattle.std.specs.List.{sum_by, count_by}
use Rattle.std.proofs.lemmas.List.{length-map, length-append}
use Rattle.std.proofs.Math.Nat.{mul-le-mul_left, mul-le-mul_right}
use Rattle.std.proofs.lemmas.Option.{slice_get_within, get_or_from_slice_get, slice_get-get_or}
use Rattle.op_system.specs.declared.system.OpSystem.{OpSystem}
use Rattle.flow_code.specs.Points.{PlainPoint, PlainFlowFunction, PlainFlow, points_in, point_at}
use Rattle.flow_code.specs.Lawful.{nexts}
use Rattle.least_sets.specs.Forms.{Form}
use Rattle.loose_sets.specs.Keys.{told_keys}
use Rattle.flow_graph.specs.Handed.{Handing, has_key}
use Rattle.flow_graph.specs.Rows.{points_seen}
use Rattle.ssa_form.specs.Versions.{asks_of, joined_by}
use Rattle.loose_sets.specs.declared.name.Half.TheVariants.{Text, Array}
use Rattle.loose_sets.specs.declared.name.Aspect.{Aspect}
use Rattle.loose_sets.specs.declared.name.Leaving.TheVariants.{Return, Exit}
use Rattle.loose_sets.specs.declared.name.SetName.{SetName}
use Rattle.loose_sets.specs.declared.name.SetName.TheVariants.{Value, Members, Shown, Result, Input, Output, Joined, Piece, FurtherPiece, FurtherPieces, Out}
use Rattle.extraction.specs.Numbered.{bytes_of, forms_in, bytes_in, AreReached}
use Rattle.loose_sets.specs.Table.{point_of}
use Rattle.extraction.specs.Ends.{AreEnds}
use Rattle.extraction.specs.Made.{IsMadeBy}
use Rattle.extraction.specs.declared.tables.FlowTables.{FlowTables}
use Rattle.extraction.specs.Tables.{flow_of, functions_of, AreTables, lists_of}
use Rattle.extraction.specs.FlowAsked.{IsAsked}
use Rattle.extraction.specs.ListedMade.{IsMadeWith, IsMade, IsMadeOver}
use Rattle.extraction.proofs.Exact as exactness
use Rattle.extraction.specs.Sizes.{point_parts, point_bytes, program_size, joins_count, links_count}
use Rattle.extraction.specs.Bounds.{IsBoundedWith, IsBounded}
use Rattle.extraction.proofs.Sums.{sum_le, sum_add, sum_times, sum_ones, sum_none, covered, mul-add}
use Rattle.extraction.proofs.Counts.{aspects_length, slots_length, points_length, called_length, edges_length, handings_length, handed_length}
use Rattle.extraction.proofs.Fits.{joined_few}
use Rattle.extraction.proofs.Universe.{Weighs, total, places, place_in, places_length, sum_places, joined_count, called_by, targets_in, aspects, all_versions, all_names_of, entry_slots}
use Rattle.extraction.proofs.Named as named
use Rattle.extraction.proofs.Joins.{joins_few, links_few}
use Rattle.extraction.proofs.TableBounds as tables
use Rattle.extraction.proofs.TableBounds.{bytes_at}

-- with k for the keys and one: what is so many times the aspects, so many times what a version has, and some more is so many times k
within : (n x a v y r c k t : ℕ) → n ≤ x * a + v * y + r → a ≤ 5 * k → v ≤ 5 * k → 1 ≤ k → 5 * x + 5 * y + r ≤ c * t → n ≤ c * (k * t)
within n x a v y r c k t most few version one fits =
    let e1 = mul_le x a (5 * k) few in
    let e2 : x * (5 * k) ≡ k * (5 * x) = turn x k in
    let e3 = mul_le_left v (5 * k) y version in
    let e4 : (5 * k) * y ≡ k * (5 * y) = turn_left k y in
    let e5 = mul_le_left 1 k r one in
    let e6 : k * (5 * x + 5 * y + r) ≡ k * (5 * x) + k * (5 * y) + k * r = mul-add k (5 * x + 5 * y) r ∙ ap (λ (z : ℕ). z + k * r) (mul-add k (5 * x) (5 * y)) in
    let e7 = mul_le k (5 * x + 5 * y + r) (c * t) fits in
    let e8 : k * (c * t) ≡ c * (k * t) = swap k c t in
    omega (arith, most, e1, e2, e3, e4, e5, e6, e7, e8)
  where
    mul_le : (k a b : ℕ) → a ≤ b → k * a ≤ k * b
    mul_le k a b h = mul-le-mul_left k h

    mul_le_left : (a b k : ℕ) → a ≤ b → a * k ≤ b * k
    mul_le_left a b k h = mul-le-mul_right k h

    turn : (x k : ℕ) → x * (5 * k) ≡ k * (5 * x)
    turn x k = grind arith

    turn_left : (k y : ℕ) → (5 * k) * y ≡ k * (5 * y)
    turn_left k y = grind arith

    swap : (k c t : ℕ) → k * (c * t) ≡ c * (k * t)
    swap k c t = grind arith

-- more times the aspects
widen : (n s c v r x : ℕ) → n ≤ s * c + v + r → s ≤ x → n ≤ x * c + v + r
widen n s c v r x most less = let a = mul-le-mul_right c less in omega (arith, most, a)

module _ (t : FlowTables) (are : AreTables t) where
  abbrev flow : PlainFlow
  flow = flow_of t

  abbrev fs : List PlainFlowFunction
  fs = functions_of t

  abbrev points : List PlainPoint
  points = points_in fs

  abbrev asks : List (ℕ × ℕ)
  asks = asks_of t.versions

  abbrev bs : List Aspect
  bs = aspects (told_keys flow)

  abbrev all : List Handing
  all = t.handed.all.items

  abbrev keys : ℕ
  keys = length (told_keys flow)

  abbrev parts : ℕ
  parts = sum_by point_parts points

  abbrev bytes : ℕ
  bytes = sum_by point_bytes points

  abbrev slots : ℕ
  slots = sum_by (λ (g : PlainFlowFunction). g.slots_of) fs

  abbrev IsNamed : SetName → Type 0
  IsNamed n = named.IsNamed flow t.versions are.exact are.joins n

  -- each name that is reached stands for a set that there is
  name_is : (starts names : List SetName) → AreEnds flow starts → ((n : SetName) → Contains names n → IsAsked t n) → AreReached (lists_of t) starts names → (n : SetName) → Contains names n → IsNamed n
  name_is starts names ends asked reached n has =
      elim (reached has.0 n (slice_get-get_or names has.0 n has.1 ∙ ap (λ (m : SetName). Some m) has.2)) [
        | inl first ↦ (
            let e = ends.each n first in
            subst (λ (m : SetName). IsNamed m) (sym e.3) (named.entry_named flow t.versions are.exact are.joins e.0 e.1 e.2)
            )
        | inr b ↦ (
            let may = asked b.name (b.number, slice_get_within names b.number b.name b.at, get_or_from_slice_get names b.number b.name b.name b.at) in
            let row = (exactness.exact t are b.name b.named.0).0 b.named.1 in
            named.row_named flow t.versions are.exact are.joins b.name b.named.0 row may.used n b.named.2
            )
      ]

  -- and it is among all names over functions and points that there are, or nothing is listed for it
  name_lists : (n : SetName) → IsNamed n → Contains (named.over flow t.versions are.exact are.joins (places 0 fs) (places 0 points)) n ⊎ (lists_of t n ≡ [])
  unfolding point_at point_of
  name_lists (Result b f) is = by (slice_get fs f) refl
    where
      by : (o : Option PlainFlowFunction) → slice_get fs f ≡ o → Contains (named.over flow t.versions are.exact are.joins (places 0 fs) (places 0 points)) (Result b f) ⊎ (lists_of t (Result b f) ≡ [])
      by None e = inr (tables.result_past t are b f e)
      by (Some g) e = inl (named.over_has flow t.versions are.exact are.joins (places 0 fs) (places 0 points) (Result b f) is
          (λ c h same. let eq : f ≡ h = cc in subst (λ (z : ℕ). Contains (places 0 fs) z) eq (place_in fs f g e)) (λ p l same. absurd (cc)))
  name_lists (Out p l) is = by (slice_get points p) refl
    where
      by : (o : Option PlainPoint) → slice_get points p ≡ o → Contains (named.over flow t.versions are.exact are.joins (places 0 fs) (places 0 points)) (Out p l) ⊎ (lists_of t (Out p l) ≡ [])
      by None e = inr (tables.past t are (Out p l) p refl e)
      by (Some k) e = inl (named.over_has flow t.versions are.exact are.joins (places 0 fs) (places 0 points) (Out p l) is
          (λ c h same. absurd (cc)) (λ q m same. let eq : p ≡ q = cc in subst (λ (z : ℕ). Contains (places 0 points) z) eq (place_in points p k e)))
  name_lists (Value b v) is = inl (named.over_has flow t.versions are.exact are.joins (places 0 fs) (places 0 points) (Value b v) is (λ c h same. absurd (cc)) (λ p l same. absurd (cc)))
  name_lists (Members h v) is = inl (named.over_has flow t.versions are.exact are.joins (places 0 fs) (places 0 points) (Members h v) is (λ c h same. absurd (cc)) (λ p l same. absurd (cc)))
  name_lists (Shown v) is = inl (named.over_has flow t.versions are.exact are.joins (places 0 fs) (places 0 points) (Shown v) is (λ c h same. absurd (cc)) (λ p l same. absurd (cc)))
  name_lists (Input p) is = inl (named.over_has flow t.versions are.exact are.joins (places 0 fs) (places 0 points) (Input p) is (λ c h same. absurd (cc)) (λ p l same. absurd (cc)))
  name_lists (Output p) is = inl (named.over_has flow t.versions are.exact are.joins (places 0 fs) (places 0 points) (Output p) is (λ c h same. absurd (cc)) (λ p l same. absurd (cc)))
  name_lists (Joined p i) is = inl (named.over_has flow t.versions are.exact are.joins (places 0 fs) (places 0 points) (Joined p i) is (λ c h same. absurd (cc)) (λ p l same. absurd (cc)))
  name_lists (Piece p) is = inl (named.over_has flow t.versions are.exact are.joins (places 0 fs) (places 0 points) (Piece p) is (λ c h same. absurd (cc)) (λ p l same. absurd (cc)))
  name_lists (FurtherPiece p) is = inl (named.over_has flow t.versions are.exact are.joins (places 0 fs) (places 0 points) (FurtherPiece p) is (λ c h same. absurd (cc)) (λ p l same. absurd (cc)))
  name_lists (FurtherPieces p) is = inl (named.over_has flow t.versions are.exact are.joins (places 0 fs) (places 0 points) (FurtherPieces p) is (λ c h same. absurd (cc)) (λ p l same. absurd (cc)))

  -- how many values are joined
  joined_all : sum_by (λ k. joined_count (Some k)) points ≤ parts
  joined_all = sum_le (λ (k : PlainPoint). joined_count (Some k)) point_parts points (λ k has. joined_few k)

  -- names
  names_weigh : Weighs (λ n. 1) bs fs points asks (flat_map called_by points) (targets_in fs points) (λ k. 1) (λ k. 1) (λ k. 1) 3 (λ n. 1) 5 1 (λ p. 2)
  names_weigh = record {
    points_most = λ b p k at. omega arith;
    entries_most = λ b k. omega arith;
    joins_most = λ b k. omega arith;
    versions_most = λ v. omega arith;
    results_most = λ b n. omega arith;
    names_most = λ p. omega arith;
    joined_most = λ p i. omega arith;
    outs_most = λ p. omega arith;
  }

  names_all : sum_by (λ n. 1) (all_names_of bs (all_versions fs points asks) (flat_map called_by points) points (targets_in fs points))
      ≤ (length points + slots + length asks + length points) * length bs + 3 * (length points + slots + length asks) + (10 * length points + parts + 2 * length fs)
  names_all =
      let a = total (λ n. 1) bs fs points asks (flat_map called_by points) (targets_in fs points) (λ k. 1) (λ k. 1) (λ k. 1) 3 (λ n. 1) 5 1 (λ p. 2) names_weigh in
      let b = sum_ones points in
      let c = sum_ones (entry_slots 0 fs) in
      let d = slots_length 0 fs in
      let e = sum_ones asks in
      let f = sum_ones (flat_map called_by points) in
      let g = called_length points in
      let h = sum_times 2 (λ (p : ℕ). 1) (targets_in fs points) in
      let i = ap (λ (n : ℕ). 2 * n) (sum_ones (targets_in fs points)) in
      let j = length-append (map (λ (g : PlainFlowFunction). g.entry_of) fs) (flat_map nexts points) in
      let k = length-map fs (λ (g : PlainFlowFunction). g.entry_of) in
      let l = edges_length points in
      let m = joined_all in
      let n = widen _ _ _ _ _ (length points + slots + length asks + length points) a (omega (arith, b, c, d, e, f, g)) in
      omega (arith, n, d, h, i, j, k, l, m)

  -- forms
  abbrev forms_of : SetName → ℕ
  forms_of n = length (lists_of t n)

  forms_weigh : Weighs forms_of bs fs points asks (places 0 fs) (places 0 points) (λ k. 4 + 3 * point_parts k) (λ k. count_by (has_key k) all + 1) (λ k. length (joined_by t.versions k.0 k.1)) (2 * (keys + 1) + 2)
      (λ n. length (tables.returned t are n)) 8 1 (λ p. 4)
  forms_weigh = record {
    points_most = λ b p k at. (tables.at_point t are b p k at).0;
    entries_most = λ b k. (tables.at_entry t are b k).0;
    joins_most = λ b k. (tables.at_join t are b k).0;
    versions_most = λ v. let x = (tables.of_members t are Text v).0 in let y = (tables.of_members t are Array v).0 in let z = (tables.of_shown t are v).0 in omega (arith, x, y, z);
    results_most = λ b n. (tables.of_result t are b n).0;
    names_most = λ p.
        let a = (tables.of_input t are p).0 in
        let b = (tables.of_output t are p).0 in
        let c = (tables.of_piece t are p).0 in
        let d = (tables.of_further t are p).0 in
        let e = (tables.of_any_further t are p).0 in
        omega (arith, a, b, c, d, e);
    joined_most = λ p i. (tables.of_joined t are p i).0;
    outs_most = λ p. let a = (tables.of_out t are p Return).0 in let b = (tables.of_out t are p Exit).0 in omega (arith, a, b);
  }

  handed_all : sum_by (λ k. count_by (has_key k) all + 1) (entry_slots 0 fs) ≤ parts + slots
  handed_all =
      let a = sum_add (λ (k : ℕ × ℕ). count_by (has_key k) all) (λ (k : ℕ × ℕ). 1) (entry_slots 0 fs) in
      let b = handed_length fs all in
      let c = handings_length fs 0 (points_seen t.row) in
      let d = ap (λ (hs : List Handing). length hs) are.handed in
      let e = ap (λ (ks : List PlainPoint). sum_by point_parts ks) are.points in
      let f = sum_ones (entry_slots 0 fs) in
      let g = slots_length 0 fs in
      omega (arith, a, b, c, d, e, f, g)

  returned_all : sum_by (λ n. length (tables.returned t are n)) (places 0 fs) ≤ length points
  returned_all =
      let a = sum_places (λ (n : ℕ). length (tables.returned t are n)) (λ (g : PlainFlowFunction). length g.points_of) fs 0
      (λ n g at. subst (λ (m : ℕ). length (tables.returned t are m) ≤ length g.points_of) (none n) (tables.returned_few t are n g at)) in
      let b = points_length fs in
      omega (arith, a, b)
    where
      none : (n : ℕ) → n ≡ 0 + n
      none n = omega arith

  four_all : sum_by (λ k. 4 + 3 * point_parts k) points ≡ 4 * length points + 3 * parts
  four_all =
      let a = sum_add (λ (k : PlainPoint). 4 * 1) (λ (k : PlainPoint). 3 * point_parts k) points in
      let b = sum_times 4 (λ (k : PlainPoint). 1) points in
      let c = sum_times 3 point_parts points in
      let d = ap (λ (n : ℕ). 4 * n) (sum_ones points) in
      omega (arith, a, b, c, d)

  abbrev over : List SetName
  over = named.over flow t.versions are.exact are.joins (places 0 fs) (places 0 points)

  forms_all : sum_by forms_of over
      ≤ (5 * length points + 4 * parts + slots + links_count t.versions) * length bs + (2 * (keys + 1) + 2) * (length points + slots + length asks) + (13 * length points + parts)
  forms_all =
      let a = total forms_of bs fs points asks (places 0 fs) (places 0 points) (λ k. 4 + 3 * point_parts k) (λ k. count_by (has_key k) all + 1) (λ k. length (joined_by t.versions k.0 k.1)) (2 * (keys + 1) + 2)
      (λ n. length (tables.returned t are n)) 8 1 (λ p. 4) forms_weigh in
      let b = four_all in
      let c = handed_all in
      let d = returned_all in
      let e = joined_all in
      let f = sum_times 4 (λ (p : ℕ). 1) (places 0 points) in
      let g = ap (λ (n : ℕ). 4 * n) (sum_ones (places 0 points) ∙ places_length 0 points) in
      let h = widen _ _ _ _ _ (5 * length points + 4 * parts + slots + links_count t.versions) a (omega (arith, b, c, d)) in
      let i = ap (λ (n : ℕ). (2 * (keys + 1) + 2) * (length points + n + length asks)) (slots_length 0 fs) in
      omega (arith, h, e, f, g, i)

  -- bytes
  abbrev bytes_in_forms : SetName → ℕ
  bytes_in_forms n = bytes_of (lists_of t n)

  bytes_weigh : Weighs bytes_in_forms bs fs points asks (places 0 fs) (places 0 points) (λ k. 1 + point_parts k + point_bytes k) (λ k. 0) (λ k. 0) 5 (λ n. 0) 5 0 (λ p. 2 * bytes_at (slice_get points p))
  bytes_weigh = record {
    points_most = λ b p k at. (tables.at_point t are b p k at).1;
    entries_most = λ b k. (tables.at_entry t are b k).1;
    joins_most = λ b k. (tables.at_join t are b k).1;
    versions_most = λ v. let x = (tables.of_members t are Text v).1 in let y = (tables.of_members t are Array v).1 in let z = (tables.of_shown t are v).1 in omega (arith, x, y, z);
    results_most = λ b n. (tables.of_result t are b n).1;
    names_most = λ p.
        let a = (tables.of_input t are p).1 in
        let b = (tables.of_output t are p).1 in
        let c = (tables.of_piece t are p).1 in
        let d = (tables.of_further t are p).1 in
        let e = (tables.of_any_further t are p).1 in
        omega (arith, a, b, c, d, e);
    joined_most = λ p i. (tables.of_joined t are p i).1;
    outs_most = λ p. let a = (tables.of_out t are p Return).1 in let b = (tables.of_out t are p Exit).1 in omega (arith, a, b);
  }

  bytes_all : sum_by bytes_in_forms over ≤ (length points + parts + bytes) * length bs + 5 * (length points + slots + length asks) + (5 * length points + 2 * bytes)
  bytes_all =
      let a = total bytes_in_forms bs fs points asks (places 0 fs) (places 0 points) (λ k. 1 + point_parts k + point_bytes k) (λ k. 0) (λ k. 0) 5 (λ n. 0) 5 0 (λ p. 2 * bytes_at (slice_get points p)) bytes_weigh in
      let b = sum_add (λ (k : PlainPoint). 1 + point_parts k) point_bytes points in
      let c = sum_add (λ (k : PlainPoint). 1) point_parts points in
      let d = sum_ones points in
      let e = sum_none (λ (k : ℕ × ℕ). 0) (entry_slots 0 fs) (λ k. refl) in
      let f = sum_none (λ (k : ℕ × ℕ). 0) asks (λ k. refl) in
      let g = sum_none (λ (n : ℕ). 0) (places 0 fs) (λ n. refl) in
      let h = sum_places (λ (p : ℕ). 2 * bytes_at (slice_get points p)) (λ (k : PlainPoint). 2 * point_bytes k) points 0 (λ p k at. same p k at) in
      let i = sum_times 2 point_bytes points in
      let j = widen _ _ _ _ _ (length points + parts + bytes) a (omega (arith, b, c, d, e, f, g)) in
      let k = slots_length 0 fs in
      omega (arith, j, h, i, k)
    where
      same : (p : ℕ) (k : PlainPoint) → slice_get points p ≡ Some k → 2 * bytes_at (slice_get points (0 + p)) ≤ 2 * point_bytes k
      same p k at = let e : slice_get points (0 + p) ≡ Some k = ap (λ (n : ℕ). slice_get points n) (none p) ∙ at in let f = ap (λ (o : Option PlainPoint). 2 * bytes_at o) e in omega (arith, f)
        where
          none : (n : ℕ) → 0 + n ≡ n
          none n = omega arith

  few_aspects : length bs ≤ 5 * (keys + 1)
  few_aspects = let a = aspects_length (told_keys flow) in omega (arith, a)

  size_is : program_size flow ≡ length points + length fs + slots + parts + bytes
  unfolding program_size
  size_is = refl

  module _ (request : List ℕ → Type 0) (nonterminals lines more_nonterminals more_productions : ℕ) (few_nonterminals : nonterminals ≤ 32 + more_nonterminals) (few_lines : lines ≤ 65 + more_productions)
      (s : OpSystem) (made : IsMadeBy request nonterminals lines flow (IsAsked t) (lists_of t) s) where
    named_is : (n : SetName) → Contains made.names n → IsNamed n
    named_is = name_is made.starts made.names made.ends made.asked made.reached

    names_few : length made.names ≤ (2 * length points + slots + length asks) * length bs + 3 * (length points + slots + length asks) + (10 * length points + parts + 2 * length fs)
    names_few =
        let a = sum_ones made.names in
        let b = covered (λ (n : SetName). 1) made.names (named.named flow t.versions are.exact are.joins) made.once
        (λ n has. inl (named.named_has flow t.versions are.exact are.joins n (named_is n has))) in
        let c = names_all in
        let d = times_right (length points + slots + length asks + length points) (2 * length points + slots + length asks) (length bs) (omega arith) in
        omega (arith, a, b, c, d)
      where
        times_right : (a b k : ℕ) → a ≤ b → a * k ≤ b * k
        times_right a b k h = mul-le-mul_right k h

    forms_few : forms_in (lists_of t) made.names ≤ sum_by forms_of over
    forms_few = covered forms_of made.names over made.once
        (λ n has. elim (name_lists n (named_is n has)) [
          | inl there ↦ inl there
          | inr none ↦ inr (ap (λ (forms : List (Form SetName)). length forms) none)
        ])

    bytes_few : bytes_in (lists_of t) made.names ≤ sum_by bytes_in_forms over
    bytes_few =
        let c = covered bytes_in_forms made.names over made.once
        (λ n has. elim (name_lists n (named_is n has)) [
          | inl there ↦ inl there
          | inr none ↦ inr (ap bytes_of none)
        ]) in
        omega (arith, c)

    abbrev size : ℕ
    size = program_size flow + joins_count t.versions + 1

    abbrev linked : ℕ
    linked = program_size flow + joins_count t.versions + links_count t.versions + 1

    nonterminals_few : s.grammar.count ≤ 64 * ((keys + 1) * size) + more_nonterminals
    nonterminals_few =
        let sized = size_is in
        let a = within (length made.names + 33) (2 * length points + slots + length asks) (length bs) 3 (length points + slots + length asks) (10 * length points + parts + 2 * length fs + 33) 33 (keys + 1) size
        (omega (arith, names_few)) few_aspects (omega arith) (omega arith) (omega (arith, sized)) in
        let b = within (bytes_in (lists_of t) made.names) (length points + parts + bytes) (length bs) 5 (length points + slots + length asks) (5 * length points + 2 * bytes) 15 (keys + 1) size
        (omega (arith, bytes_few, bytes_all)) few_aspects (omega arith) (omega arith) (omega (arith, sized)) in
        let c = made.numbers in
        omega (arith, a, b, c, few_nonterminals)

    productions_few : length s.grammar.productions.items + length s.ops.items ≤ 128 * ((keys + 1) * linked) + more_productions
    productions_few =
        let sized = size_is in
        let a = within (forms_in (lists_of t) made.names + length made.starts + 65) (5 * length points + 4 * parts + slots + links_count t.versions) (length bs) (2 * (keys + 1) + 2) (length points + slots + length asks) (13 * length points + parts + 67) 67 (keys + 1) linked
        (let f = made.ends.few in omega (arith, forms_few, forms_all, f)) few_aspects (omega arith) (omega arith) (omega (arith, sized)) in
        let b = within (bytes_in (lists_of t) made.names) (length points + parts + bytes) (length bs) 5 (length points + slots + length asks) (5 * length points + 2 * bytes) 15 (keys + 1) linked
        (omega (arith, bytes_few, bytes_all)) few_aspects (omega arith) (omega arith) (omega (arith, sized)) in
        let c = made.sizes in
        omega (arith, a, b, c, few_lines)

    pub bounded : IsBoundedWith more_nonterminals more_productions flow s
    bounded = record { versions = t.versions; exact = are.exact; once = are.once; joins = are.joins; joins_most = joins_few flow t.versions are.once are.joins; links_most = links_few flow t.versions are.once are.joins; nonterminals = nonterminals_few; productions = productions_few }

-- what is made of a program's sets is no larger than the program and its versions allow, and what is given for the request
bounded_with : (request : List ℕ → Type 0) (nonterminals lines more_nonterminals more_productions : ℕ) → nonterminals ≤ 32 + more_nonterminals → lines ≤ 65 + more_productions
    → (flow : PlainFlow) (s : OpSystem) → IsMadeWith request nonterminals lines flow s → IsBoundedWith more_nonterminals more_productions flow s
bounded_with request nonterminals lines more_nonterminals more_productions few_nonterminals few_lines flow s made =
    subst (λ (f : PlainFlow). IsBoundedWith more_nonterminals more_productions f s) made.of_flow (bounded made.tables made.are request nonterminals lines more_nonterminals more_productions few_nonterminals few_lines s
    (subst (λ (f : PlainFlow). IsMadeBy request nonterminals lines f (IsAsked made.tables) (lists_of made.tables) s) (sym made.of_flow) made.made))

pub is_bounded : (flow : PlainFlow) (s : OpSystem) → IsMade flow s → IsBounded flow s
is_bounded flow s made = bounded_with _ 32 65 0 0 (omega arith) (omega arith) flow s made

pub is_bounded_over : (request : List ℕ → Type 0) (count size : ℕ) (flow : PlainFlow) (s : OpSystem) → IsMadeOver request count size flow s → IsBoundedWith count size flow s
is_bounded_over request count size flow s made = bounded_with request (32 + count) made.lines count size (omega arith) made.few flow s made.made
