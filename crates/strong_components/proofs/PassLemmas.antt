-- An edge that leads to a node that is done, or to the path.
use Rattle.std.proofs.Common.{◌≡◌, ◌<◌, ℕ, List, ◌∷◌, length, Some, slice_get, inl, inr, refl, ◌∙◌, ap, subst, arith}
use Rattle.std.specs.Prelude.{◌⊎◌}
use Rattle.smallvec.specs.SmallVec.{SmallVec}
use Rattle.std.proofs.lemmas.Option.{slice_get_within}
use Rattle.std.proofs.lemmas.Bool.{cases_lt}
use Rattle.strong_components.specs.Edges.{HasEdge}
use Rattle.strong_components.specs.Components.{Reaches}
use Rattle.strong_components.specs.declared.marks.Mark.{Mark}
use Rattle.strong_components.specs.declared.marks.Mark.TheVariants.{Done}
use Rattle.strong_components.specs.declared.marks.Waiting.{Waiting}
use Rattle.strong_components.specs.Search.{kept, Back, IsExplored, IsGrounded, IsSearch}
use Rattle.strong_components.specs.Opening.{IsLast}
use Rattle.strong_components.proofs.ListLemmas.{one_of, later_in, kept_from, kept_below, kept_has, kept_rises}
use Rattle.strong_components.proofs.ReachLemmas.{reach_reach, reach_edge}

module _ (edges : List (SmallVec ℕ)) (marks : List Mark) (path starts : List ℕ) (w : Waiting) (ws : List Waiting) (found : ℕ) (s : IsSearch edges marks path starts (w ∷ ws) found) where
  -- an edge is the one that has been taken off the stack, or it is explored without it
  pub but_one : (p v : ℕ) → IsExplored marks path starts (w ∷ ws) p v → ((w.from ≡ p) × (w.to ≡ v)) ⊎ IsExplored marks path starts ws p v
  but_one p v (IsExplored.is_done n e) = inr (IsExplored.is_done n e)
  but_one p v (IsExplored.is_open q e b) = inr (IsExplored.is_open q e b)
  but_one p v (IsExplored.is_waiting h) = elim (one_of w ws (record { from = p; to = v }) h) [
    | inl same ↦ inl (ap (λ (x : Waiting). x.from) same, ap (λ (x : Waiting). x.to) same)
    | inr there ↦ inr (IsExplored.is_waiting there)
  ]

  -- it leads to a node that is done
  pub passes : (n : ℕ) → slice_get marks w.to ≡ Some (Done n) → IsSearch edges marks path starts ws found
  passes n is = record {
    size = s.size;
    degrees = s.degrees;
    placed = s.placed;
    opened = s.opened;
    joined = s.joined;
    closed = s.closed;
    same = s.same;
    below = s.below;
    explored = λ p u v at edge. elim (but_one p v (s.explored p u v at edge)) [
      | inl this ↦ IsExplored.is_done n (subst (λ (x : ℕ). slice_get marks x ≡ Some (Done n)) this.1 is)
      | inr other ↦ other
    ];
    waiting_edge = λ x h. s.waiting_edge x (later_in w ws x h);
    sorted = s.sorted.1;
    starts_in = s.starts_in;
    rises = s.rises;
    grounded = s.grounded;
  }

  module _ (q : ℕ) (at_q : slice_get path q ≡ Some w.to) (last : IsLast starts w.from) where
    abbrev K : List ℕ
    K = kept q starts

    fewer_back : (a b : ℕ) → Back starts a b → Back K a b
    fewer_back a b back t h = back t (kept_from q starts t h)

    -- all nodes behind the place come into one group
    joined_so : (a b u v : ℕ) → slice_get path a ≡ Some u → slice_get path b ≡ Some v → Back K a b → Reaches edges u v
    joined_so a b u v at_a at_b back = elim (cases_lt a q) [
      | inl before ↦ s.joined a b u v at_a at_b (λ t h le. back t (kept_has q starts t h (omega arith)) le)
      | inr behind ↦
          let edge = s.waiting_edge w (0, omega arith, refl) in
          let to_edge = s.joined a w.from u edge.0 at_a edge.1 (λ t h le. last t h) in
          let to_q = reach_edge edges u edge.0 w.to to_edge edge.2 in
          let from_q = s.joined q b w.to v at_q at_b (λ t h le. back t (kept_has q starts t h le) (omega arith)) in
          reach_reach edges u w.to v to_q from_q
    ]

    explored_so : (p u v : ℕ) → slice_get path p ≡ Some u → HasEdge edges u v → IsExplored marks path K ws p v
    explored_so p u v at edge = elim (but_one p v (s.explored p u v at edge)) [
      | inl this ↦ IsExplored.is_open q (at_q ∙ ap Some this.1) (λ t h le. kept_below q starts t s.rises h)
      | inr other ↦ so p v other
    ]
      where
        so : (p v : ℕ) → IsExplored marks path starts ws p v → IsExplored marks path K ws p v
        so p v (IsExplored.is_done n e) = IsExplored.is_done n e
        so p v (IsExplored.is_open r e b) = IsExplored.is_open r e (fewer_back p r b)
        so p v (IsExplored.is_waiting h) = IsExplored.is_waiting h

    grounded_so : (p : ℕ) → p < length path → IsGrounded K p
    grounded_so p lt =
        let g = s.grounded p lt in
        let gq = s.grounded q (slice_get_within path q w.to at_q) in
        elim (cases_lt q g.start) [
          | inl behind ↦ record { start = gq.start; has = kept_has q starts gq.start gq.has gq.before; before = (let b = gq.before in let c = g.before in omega arith) }
          | inr here ↦ record { start = g.start; has = kept_has q starts g.start g.has (omega arith); before = g.before }
        ]

    pub merges : IsSearch edges marks path K ws found
    merges = record {
      size = s.size;
      degrees = s.degrees;
      placed = s.placed;
      opened = s.opened;
      joined = joined_so;
      closed = s.closed;
      same = s.same;
      below = s.below;
      explored = explored_so;
      waiting_edge = λ x h. s.waiting_edge x (later_in w ws x h);
      sorted = s.sorted.1;
      starts_in = λ t h. s.starts_in t (kept_from q starts t h);
      rises = kept_rises q starts s.rises;
      grounded = grounded_so;
    }
