-- Edges and entries of a program are what its list of arrivals holds.
use Rattle.std.proofs.Common.{◌≡◌, ◌<◌, ◌+◌, ◌⊎◌, inl, inr, ℕ, zero, suc, Bool, true, false, List, [], ◌∷◌, length, if◌then◌else◌, Option, Some, None, refl, sym, subst, ◌∙◌, ap, arith, slice_get, Contains}
use Rattle.std.specs.Prelude.{nat_lt}
use Rattle.std.specs.Option.{option_map}
use Rattle.std.proofs.lemmas.Option.{same_Some, slice_get-map, slice_get_within}
use Rattle.std.proofs.lemmas.Bool.{lt-ltb}
use Rattle.std.proofs.lemmas.Bool.Decides.{eqb_tells}
use Rattle.std.proofs.lemmas.List.Elements.{Contains-append_left, Contains-append_right, Contains-append_cases}
use Rattle.flow_code.specs.Points.{PlainPoint, PlainFlowFunction, PlainFlow, points_in, point_at, function_at}
use Rattle.flow_graph.specs.declared.arrivals.Arrival.{Arrival}
use Rattle.flow_graph.specs.declared.arrivals.Arrival.TheVariants.{Edge as of_edge, Entry as of_entry}
use Rattle.flow_graph.specs.Steps.{PlainStep, step_of_point}
use Rattle.flow_graph.specs.Arrivals.{within, from_exits, from_steps, from_functions}
use Rattle.flow_graph.specs.Heads.{ComesFrom, GoesOn}
use Rattle.loose_sets.specs.Versions.{Edge, IsOnly}
use Rattle.ssa_form.specs.Marks.{IsGraph, IsPoint}
use Rattle.ssa_form.specs.Versions.{OnlyGoesOn}
use Rattle.ssa_form.proofs.HeadLemmas.{contiguous, is_first}
use Rattle.ssa_form.proofs.ReadLemmas.{in_one}

one_of : {X : Type 0} (x : X) → Contains (x ∷ []) x
one_of x = (zero, omega arith, refl)

none_of : {X : Type 0} (x : X) → Contains [] x → ⊥
none_of x c = let h = c.1 in omega arith

within_holds : (count : ℕ) (a : ℕ × Arrival) → a.0 < count → Contains (within count a) a
unfolding within
within_holds count a h = subst (λ (b : Bool). Contains (if b then a ∷ [] else []) a) (sym (lt-ltb a.0 count h)) (one_of a)

within_only : (count : ℕ) (a b : ℕ × Arrival) → Contains (within count a) b → a ≡ b
unfolding within
within_only count a b c = by (nat_lt a.0 count) c
  where
    by : (t : Bool) → Contains (if t then a ∷ [] else []) b → a ≡ b
    by true k = in_one a b k
    by false k = absurd (none_of b k)

-- the exits of one point
exits_hold : (count q : ℕ) (ps : List ℕ) (p : ℕ) → Contains ps p → p < count → Contains (from_exits count q ps) (p, of_edge q)
exits_hold count q [] p c h = absurd (none_of p c)
exits_hold count q (x ∷ ps) p c h = elim (Contains-append_cases (x ∷ []) ps p c) [
  | inl k ↦ Contains-append_left (within count (x, of_edge q)) (from_exits count q ps) (p, of_edge q)
      (subst (λ (y : ℕ). Contains (within count (y, of_edge q)) (p, of_edge q)) (sym (in_one x p k)) (within_holds count (p, of_edge q) h))
  | inr k ↦ Contains-append_right (within count (x, of_edge q)) (from_exits count q ps) (p, of_edge q) (exits_hold count q ps p k h)
]

exits_only : (count q : ℕ) (ps : List ℕ) (p : ℕ) (a : Arrival) → Contains (from_exits count q ps) (p, a) → (a ≡ of_edge q) × Contains ps p
exits_only count q [] p a c = absurd (none_of (p, a) c)
exits_only count q (x ∷ ps) p a c = elim (Contains-append_cases (within count (x, of_edge q)) (from_exits count q ps) (p, a) c) [
  | inl k ↦ (let e = within_only count (x, of_edge q) (p, a) k in
      (sym (ap (λ (z : ℕ × Arrival). z.1) e), subst (λ (y : ℕ). Contains (y ∷ ps) p) (sym (ap (λ (z : ℕ × Arrival). z.0) e)) (Contains-append_left (p ∷ []) ps p (one_of p))))
  | inr k ↦ (let r = exits_only count q ps p a k in (r.0, Contains-append_right (x ∷ []) ps p r.1))
]

-- those of all points, from a number on
steps_hold : (count first : ℕ) (ss : List PlainStep) (i : ℕ) (s : PlainStep) (p : ℕ) → slice_get ss i ≡ Some s → Contains s.nexts_of p → p < count → Contains (from_steps count first ss) (p, of_edge (first + i))
unfolding from_steps
steps_hold count first [] i s p e c h = absurd (cc)
steps_hold count first (t ∷ ss) zero s p e c h =
    Contains-append_left (from_exits count first t.nexts_of) (from_steps count (suc first) ss) (p, of_edge (first + zero))
    (subst (λ (n : ℕ). Contains (from_exits count first t.nexts_of) (p, of_edge n)) (omega arith)
    (exits_hold count first t.nexts_of p (subst (λ (u : PlainStep). Contains u.nexts_of p) (sym (same_Some t s e)) c) h))
steps_hold count first (t ∷ ss) (suc i) s p e c h =
    Contains-append_right (from_exits count first t.nexts_of) (from_steps count (suc first) ss) (p, of_edge (first + suc i))
    (subst (λ (n : ℕ). Contains (from_steps count (suc first) ss) (p, of_edge n)) (omega arith) (steps_hold count (suc first) ss i s p e c h))

-- an arrival in the list is an edge of one of the points
record IsExit (first : ℕ) (ss : List PlainStep) (p : ℕ) (a : Arrival) : Type 0 where
  place : ℕ
  step : PlainStep
  there : slice_get ss place ≡ Some step
  leads : Contains step.nexts_of p
  is : a ≡ of_edge (first + place)

steps_only : (count first : ℕ) (ss : List PlainStep) (p : ℕ) (a : Arrival) → Contains (from_steps count first ss) (p, a) → IsExit first ss p a
unfolding from_steps
steps_only count first [] p a c = absurd (none_of (p, a) c)
steps_only count first (t ∷ ss) p a c = elim (Contains-append_cases (from_exits count first t.nexts_of) (from_steps count (suc first) ss) (p, a) c) [
  | inl k ↦ (let r = exits_only count first t.nexts_of p a k in
      record { place = zero; step = t; there = refl; leads = r.1; is = r.0 ∙ ap of_edge (omega arith) })
  | inr k ↦ (let r = steps_only count (suc first) ss p a k in
      record { place = suc r.place; step = r.step; there = r.there; leads = r.leads; is = r.is ∙ ap of_edge (omega arith) })
]

functions_hold : (count first : ℕ) (gs : List PlainFlowFunction) (f : ℕ) (g : PlainFlowFunction) → slice_get gs f ≡ Some g → g.entry_of < count → Contains (from_functions count first gs) (g.entry_of, of_entry (first + f))
unfolding from_functions
functions_hold count first [] f g e h = absurd (cc)
functions_hold count first (k ∷ gs) zero g e h =
    let same = same_Some k g e in
    Contains-append_left (within count (k.entry_of, of_entry first)) (from_functions count (suc first) gs) (g.entry_of, of_entry (first + zero))
    (subst (λ (n : ℕ). Contains (within count (k.entry_of, of_entry first)) (g.entry_of, of_entry n)) (omega arith)
    (subst (λ (j : PlainFlowFunction). Contains (within count (j.entry_of, of_entry first)) (g.entry_of, of_entry first)) (sym same) (within_holds count (g.entry_of, of_entry first) h)))
functions_hold count first (k ∷ gs) (suc f) g e h =
    Contains-append_right (within count (k.entry_of, of_entry first)) (from_functions count (suc first) gs) (g.entry_of, of_entry (first + suc f))
    (subst (λ (n : ℕ). Contains (from_functions count (suc first) gs) (g.entry_of, of_entry n)) (omega arith) (functions_hold count (suc first) gs f g e h))

record IsEntry (first : ℕ) (gs : List PlainFlowFunction) (p : ℕ) (a : Arrival) : Type 0 where
  place : ℕ
  function : PlainFlowFunction
  there : slice_get gs place ≡ Some function
  entered : function.entry_of ≡ p
  is : a ≡ of_entry (first + place)

functions_only : (count first : ℕ) (gs : List PlainFlowFunction) (p : ℕ) (a : Arrival) → Contains (from_functions count first gs) (p, a) → IsEntry first gs p a
unfolding from_functions
functions_only count first [] p a c = absurd (none_of (p, a) c)
functions_only count first (g ∷ gs) p a c = elim (Contains-append_cases (within count (g.entry_of, of_entry first)) (from_functions count (suc first) gs) (p, a) c) [
  | inl k ↦ (let e = within_only count (g.entry_of, of_entry first) (p, a) k in
      record { place = zero; function = g; there = refl; entered = ap (λ (z : ℕ × Arrival). z.0) e; is = sym (ap (λ (z : ℕ × Arrival). z.1) e) ∙ ap of_entry (omega arith) })
  | inr k ↦ (let r = functions_only count (suc first) gs p a k in
      record { place = suc r.place; function = r.function; there = r.there; entered = r.entered; is = r.is ∙ ap of_entry (omega arith) })
]

module _ (flow : PlainFlow) (steps : List PlainStep) (all : List (ℕ × Arrival)) (heads : List ℕ) (graph : IsGraph flow steps all heads) where
  -- a point and its step
  pub step_at : (q : ℕ) (i : PlainPoint) → point_at flow q ≡ Some i → slice_get steps q ≡ Some (step_of_point i)
  unfolding point_at
  step_at q i e = subst (λ (ss : List PlainStep). slice_get ss q ≡ Some (step_of_point i)) (sym graph.steps_are)
      (slice_get-map step_of_point (points_in flow.functions_of) q ∙ ap (option_map step_of_point) e)

  pub point_of : (q : ℕ) (s : PlainStep) → slice_get steps q ≡ Some s → (i : PlainPoint) × (point_at flow q ≡ Some i) × (s ≡ step_of_point i)
  unfolding point_at
  point_of q s e = by (slice_get (points_in flow.functions_of) q) refl
      (sym (slice_get-map step_of_point (points_in flow.functions_of) q) ∙ subst (λ (ss : List PlainStep). slice_get ss q ≡ Some s) graph.steps_are e)
    where
      by : (o : Option PlainPoint) → slice_get (points_in flow.functions_of) q ≡ o → option_map step_of_point (slice_get (points_in flow.functions_of) q) ≡ Some s
          → (i : PlainPoint) × (slice_get (points_in flow.functions_of) q ≡ Some i) × (s ≡ step_of_point i)
      by None at f = absurd (no_step (sym f ∙ ap (option_map step_of_point) at))
        where
          no_step : Some s ≡ None → ⊥
          no_step k = cc
      by (Some i) at f = (i, at, same_Some s (step_of_point i) (sym f ∙ ap (option_map step_of_point) at))

  pub edge_listed : (q p : ℕ) → Edge flow q p → p < length steps → Contains all (p, of_edge q)
  edge_listed q p e h =
      let none : 0 + q ≡ q = omega arith in
      subst (λ (xs : List (ℕ × Arrival)). Contains xs (p, of_edge q)) (sym graph.all_are)
      (Contains-append_left (from_steps (length steps) 0 steps) (from_functions (length steps) 0 flow.functions_of) (p, of_edge q)
      (subst (λ (n : ℕ). Contains (from_steps (length steps) 0 steps) (p, of_edge n)) none
      (steps_hold (length steps) 0 steps q (step_of_point e.point) p (step_at q e.point e.there) e.leads h)))

  pub entry_listed : (f : ℕ) (g : PlainFlowFunction) → function_at flow f ≡ Some g → g.entry_of < length steps → Contains all (g.entry_of, of_entry f)
  entry_listed f g e h =
      let none : 0 + f ≡ f = omega arith in
      subst (λ (xs : List (ℕ × Arrival)). Contains xs (g.entry_of, of_entry f)) (sym graph.all_are)
      (Contains-append_right (from_steps (length steps) 0 steps) (from_functions (length steps) 0 flow.functions_of) (g.entry_of, of_entry f)
      (subst (λ (n : ℕ). Contains (from_functions (length steps) 0 flow.functions_of) (g.entry_of, of_entry n)) none
      (functions_hold (length steps) 0 flow.functions_of f g e h)))

  -- what stands in the list
  pub listed : (p : ℕ) (a : Arrival) → Contains all (p, a)
      → ((q : ℕ) × (a ≡ of_edge q) × Edge flow q p) ⊎ ((f : ℕ) × (a ≡ of_entry f) × (g : PlainFlowFunction) × (function_at flow f ≡ Some g) × (g.entry_of ≡ p))
  listed p a c =
      elim (Contains-append_cases (from_steps (length steps) 0 steps) (from_functions (length steps) 0 flow.functions_of) (p, a)
      (subst (λ (xs : List (ℕ × Arrival)). Contains xs (p, a)) graph.all_are c)) [
        | inl k ↦ (let r = steps_only (length steps) 0 steps p a k in let i = point_of r.place r.step r.there in
            inl (r.place, r.is ∙ ap of_edge (omega arith), record { point = i.0; there = i.1; leads = subst (λ (s : PlainStep). Contains s.nexts_of p) i.2 r.leads }))
        | inr k ↦ (let r = functions_only (length steps) 0 flow.functions_of p a k in inr (r.place, r.is ∙ ap of_entry (omega arith), r.function, r.there, r.entered))
      ]

  -- where all that leads to a point is an edge from one point, and there is the edge
  pub only_from : (p b : ℕ) → Edge flow b p → ComesFrom all p b → p < length steps → IsOnly flow p b
  only_from p b e from h = record {
    edge = e;
    alone = λ q k. edge_same q b (from (of_edge q) (edge_listed q p k h));
    inside = λ f g there at. entry_edge f b (from (of_entry f) (subst (λ (z : ℕ). Contains all (z, of_entry f)) (sym at) (entry_listed f g there (subst (λ (z : ℕ). z < length steps) at h))));
  }
    where
      edge_same : (q r : ℕ) → of_edge q ≡ of_edge r → q ≡ r
      edge_same q r k = cc

      entry_edge : (f r : ℕ) → of_entry f ≡ of_edge r → ⊥
      entry_edge f r k = cc

  only_edge : (p b : ℕ) → GoesOn steps all p → p ≡ suc b → p < length steps → IsOnly flow p b
  only_edge p b goes e h =
      let same : goes.before ≡ b = (let f = goes.follows in omega arith) in
      let i = point_of goes.before goes.step goes.there in
      let edge : Edge flow goes.before p = record { point = i.0; there = i.1; leads = subst (λ (s : PlainStep). Contains s.nexts_of p) i.2 (subst (λ (ns : List ℕ). Contains ns p) (sym goes.on) (one_of p)) } in
      subst (λ (q : ℕ). IsOnly flow p q) same (only_from p goes.before edge goes.alone h)

  -- an arrival that is an edge is one of the program
  pub listed_edge : (p q : ℕ) → Contains all (p, of_edge q) → Edge flow q p
  listed_edge p q c = elim (listed p (of_edge q) c) [
    | inl e ↦ subst (λ (r : ℕ). Edge flow r p) (sym (same_edge q e.0 e.1)) e.2
    | inr e ↦ absurd (no_entry q e.0 e.1)
  ]
    where
      same_edge : (q r : ℕ) → of_edge q ≡ of_edge r → q ≡ r
      same_edge q r k = cc

      no_entry : (q f : ℕ) → of_edge q ≡ of_entry f → ⊥
      no_entry q f k = cc

  -- where the point before goes on there alone, no row begins
  pub no_first : (p : ℕ) → slice_get heads p ≡ Some p → OnlyGoesOn flow p → ⊥
  no_first p first goes =
      let at : slice_get heads (suc goes.before) ≡ Some p = subst (λ (z : ℕ). slice_get heads z ≡ Some p) goes.follows first in
      let before = graph.go_on goes.before p at (record {
        before = goes.before;
        follows = refl;
        step = step_of_point goes.point;
        there = step_at goes.before goes.point goes.there;
        on = goes.on ∙ ap (λ (z : ℕ). z ∷ []) goes.follows;
        alone = λ a c. comes a (listed p a (subst (λ (z : ℕ). Contains all (z, a)) (sym goes.follows) c));
      }) in
      let low = graph.heads_are.before goes.before p before in
      let f = goes.follows in
      omega arith
    where
      comes : (a : Arrival) → ((q : ℕ) × (a ≡ of_edge q) × Edge flow q p) ⊎ ((f : ℕ) × (a ≡ of_entry f) × (g : PlainFlowFunction) × (function_at flow f ≡ Some g) × (g.entry_of ≡ p)) → a ≡ of_edge goes.before
      comes a (inl k) = k.1 ∙ ap (λ (q : ℕ). of_edge q) (goes.only.alone k.0 k.2)
      comes a (inr k) = absurd (goes.only.inside k.0 k.2 k.3 (sym k.4))

  pub is_point : (h p : ℕ) (step : PlainStep) → slice_get heads p ≡ Some h → slice_get steps p ≡ Some step → IsPoint flow heads h p step
  is_point h p step at there =
      let i = point_of p step there in
      record {
        head = at;
        before = graph.heads_are.before p h at;
        first = is_first steps all heads graph.heads_are p h at;
        apart = λ q less e. contiguous steps all heads graph.heads_are p h (suc q) at (let b = graph.heads_are.before q h e in omega arith) (omega arith);
        point = i.0;
        there = i.1;
        is = i.2;
        follows = before p at (slice_get_within steps p step there);
      }
    where
      before : (p : ℕ) → slice_get heads p ≡ Some h → p < length steps → (h ≡ p) ⊎ ((b : ℕ) × (p ≡ suc b) × (slice_get heads b ≡ Some h) × IsOnly flow p b)
      before zero e less = inl (let b = graph.heads_are.before zero h e in omega arith)
      before (suc b) e less = elim (eqb_tells h (suc b)) [
        | inl k ↦ inl k.1
        | inr k ↦ (let r = graph.heads_are.goes b h e k.1 in inr (b, refl, r.0, only_edge (suc b) b r.1 refl less))
      ]
