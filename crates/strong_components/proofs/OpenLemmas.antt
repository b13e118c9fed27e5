-- A node that is put at the end of the path.
use Rattle.std.proofs.Common.{◌≡◌, ◌<◌, ◌≤◌, ◌+◌, ℕ, List, [], ◌∷◌, ◌++◌, length, set, Some, slice_get, get_or, inl, inr, refl, sym, ◌∙◌, ap, subst, arith, length-set, length-append}
use Rattle.std.specs.Prelude.{◌⊎◌}
use Rattle.std.specs.List.{Contains, sum_by}
use Rattle.smallvec.specs.SmallVec.{SmallVec}
use Rattle.std.proofs.lemmas.Option.{same_Some, slice_get_within, get_or_from_slice_get}
use Rattle.std.proofs.lemmas.List.Sums.{sum_by-set}
use Rattle.strong_components.specs.Edges.{HasEdge}
use Rattle.strong_components.proofs.OrderListLemmas.{push_cases, set_cases, kept_cases, set_at}
use Rattle.strong_components.specs.Components.{Reaches}
use Rattle.strong_components.specs.declared.marks.Mark.{Mark}
use Rattle.strong_components.specs.declared.marks.Mark.TheVariants.{New, Open, Done}
use Rattle.strong_components.specs.declared.marks.Waiting.{Waiting}
use Rattle.strong_components.specs.Search.{weight_of, waits, Back, IsDoneBelow, IsExplored, IsSorted, IsGrounded, IsSearch, FewerNew, work_left}
use Rattle.strong_components.proofs.ListLemmas.{one_of, first_in, later_in, new_open, new_done, open_done, same_open, one_mark, in_front, at_end, waits_cases, waits_old, waits_new, waits_sorted, waits_length}

module _ (edges : List (SmallVec ℕ)) (marks : List Mark) (path starts : List ℕ) (before ws : List Waiting) (found : ℕ) (s : IsSearch edges marks path starts before found)
    (v degree : ℕ) (is_new : slice_get marks v ≡ Some (New degree)) (targets : SmallVec ℕ) (are : slice_get edges v ≡ Some targets)
    (lead : (p u : ℕ) → slice_get path p ≡ Some u → Reaches edges u v)
    (some : (x : Waiting) → Contains ws x → Contains before x) (in_order : IsSorted ws)
    (left : (p u t : ℕ) → slice_get path p ≡ Some u → HasEdge edges u t → (t ≡ v) ⊎ IsExplored marks path starts ws p t) where
  abbrev n : ℕ
  n = length path

  abbrev M : List Mark
  M = set marks v (Open n)

  abbrev P : List ℕ
  P = path ++ v ∷ []

  abbrev W : List Waiting
  W = waits n targets.items ws

  within : v < length marks
  within = slice_get_within marks v (New degree) is_new

  -- marks of other kinds are as they were
  done_before : (u m : ℕ) → slice_get M u ≡ Some (Done m) → slice_get marks u ≡ Some (Done m)
  done_before u m e = elim (set_cases marks v (Open n) u (Done m) e) [ inl x ↦ absurd (open_done n m x.1) | inr was ↦ was ]

  done_after : (u m : ℕ) → slice_get marks u ≡ Some (Done m) → slice_get M u ≡ Some (Done m)
  done_after u m e = elim (kept_cases marks v (Open n) u (Done m) e) [
    | inl x ↦ absurd (new_done degree m (one_mark marks v (New degree) (Done m) is_new (subst (λ (y : ℕ). slice_get marks y ≡ Some (Done m)) x.0 e)))
    | inr is ↦ is
  ]

  open_after : (u p : ℕ) → slice_get marks u ≡ Some (Open p) → slice_get M u ≡ Some (Open p)
  open_after u p e = elim (kept_cases marks v (Open n) u (Open p) e) [
    | inl x ↦ absurd (new_open degree p (one_mark marks v (New degree) (Open p) is_new (subst (λ (y : ℕ). slice_get marks y ≡ Some (Open p)) x.0 e)))
    | inr is ↦ is
  ]

  pub fewer_new : FewerNew marks M
  fewer_new u d e = elim (set_cases marks v (Open n) u (New d) e) [ inl x ↦ absurd (new_open d n (sym x.1)) | inr was ↦ was ]

  placed_so : (u p : ℕ) → slice_get M u ≡ Some (Open p) → slice_get P p ≡ Some u
  placed_so u p e = elim (set_cases marks v (Open n) u (Open p) e) [
    | inl x ↦ subst (λ (y : ℕ). slice_get P y ≡ Some u) (same_open n p x.1) (at_end path v ∙ ap Some (sym x.0))
    | inr was ↦ in_front path v p u (s.placed u p was)
  ]

  opened_so : (p u : ℕ) → slice_get P p ≡ Some u → slice_get M u ≡ Some (Open p)
  opened_so p u e = elim (push_cases path v p u e) [
    | inl x ↦ open_after u p (s.opened p u x.1)
    | inr x ↦ subst (λ (y : ℕ). slice_get M y ≡ Some (Open p)) x.1 (subst (λ (y : ℕ). slice_get M v ≡ Some (Open y)) (sym x.0) (set_at marks v (Open n) within))
  ]

  joined_so : (p q a b : ℕ) → slice_get P p ≡ Some a → slice_get P q ≡ Some b → Back (n ∷ starts) p q → Reaches edges a b
  joined_so p q a b at_p at_q back = elim (push_cases path v p a at_p) [
    | inl x ↦ elim (push_cases path v q b at_q) [
      | inl y ↦ s.joined p q a b x.1 y.1 (λ t h le. back t (later_in n starts t h) le)
      | inr y ↦ subst (Reaches edges a) y.1 (lead p a x.1)
    ]
    | inr x ↦ elim (push_cases path v q b at_q) [
      | inl y ↦ absurd (let le = back n (first_in n starts) (let e = x.0 in omega arith) in let l = y.0 in omega arith)
      | inr y ↦ inl (sym x.1 ∙ y.1)
    ]
  ]

  explored_old : (p t : ℕ) → p < n → IsExplored marks path starts ws p t → IsExplored M P (n ∷ starts) W p t
  explored_old p t lt (IsExplored.is_done m e) = IsExplored.is_done m (done_after t m e)
  explored_old p t lt (IsExplored.is_open q e back) =
      IsExplored.is_open q (in_front path v q t e) (λ x h le. elim (one_of n starts x h) [ inl same ↦ absurd (omega arith) | inr there ↦ back x there le ])
  explored_old p t lt (IsExplored.is_waiting h) = IsExplored.is_waiting (waits_old n targets.items ws (record { from = p; to = t }) h)

  explored_so : (p u t : ℕ) → slice_get P p ≡ Some u → HasEdge edges u t → IsExplored M P (n ∷ starts) W p t
  explored_so p u t at edge = elim (push_cases path v p u at) [
    | inl x ↦ elim (left p u t x.1 edge) [
      | inl same ↦ IsExplored.is_open n (at_end path v ∙ ap Some (sym same)) (λ y h le. let l = x.0 in omega arith)
      | inr old ↦ explored_old p t x.0 old
    ]
    | inr x ↦
        let own : edge.targets ≡ targets = same_Some edge.targets targets (sym edge.are ∙ ap (slice_get edges) (sym x.1) ∙ are) in
        let among : Contains targets.items t = subst (λ (y : SmallVec ℕ). Contains y.items t) own edge.among in
        IsExplored.is_waiting (subst (λ (y : ℕ). Contains W (record { from = y; to = t })) (sym x.0) (waits_new n targets.items ws t among))
  ]

  before_end : (x : Waiting) → Contains ws x → x.from < n
  before_end x h = let e = s.waiting_edge x (some x h) in slice_get_within path x.from e.0 e.1

  waiting_so : (x : Waiting) → Contains W x → (u : ℕ) × (slice_get P x.from ≡ Some u) × HasEdge edges u x.to
  waiting_so x h = elim (waits_cases n targets.items ws x h) [
    | inl old ↦ (let e = s.waiting_edge x (some x old) in (e.0, in_front path v x.from e.0 e.1, e.2))
    | inr new ↦ (v, subst (λ (y : ℕ). slice_get P y ≡ Some v) (sym new.0) (at_end path v), record { targets = targets; are = are; among = new.1 })
  ]

  grounded_so : (p : ℕ) → p < length P → IsGrounded (n ∷ starts) p
  grounded_so p lt = elim (at p (omega (arith, lt, length-append path (v ∷ [])))) [
    | inl old ↦ (let g = s.grounded p old in record { start = g.start; has = later_in n starts g.start g.has; before = g.before })
    | inr last ↦ record { start = n; has = first_in n starts; before = omega arith }
  ]
    where
      at : (p : ℕ) → p ≤ n → (p < n) ⊎ (p ≡ n)
      at p le = grind arith

  pub opens : IsSearch edges M P (n ∷ starts) W found
  opens = record {
    size = length-set marks v (Open n) ∙ s.size;
    degrees = λ u d ts e is. s.degrees u d ts (fewer_new u d e) is;
    placed = placed_so;
    opened = opened_so;
    joined = joined_so;
    closed = λ u m t e edge. let d = s.closed u m t (done_before u m e) edge in record { number = d.number; is = done_after t d.number d.is; below = d.below };
    same = λ a b m e f. s.same a b m (done_before a m e) (done_before b m f);
    below = λ u m e. s.below u m (done_before u m e);
    explored = explored_so;
    waiting_edge = waiting_so;
    sorted = waits_sorted n targets.items ws (λ x h. let l = before_end x h in omega arith) in_order;
    starts_in = λ t h. omega (arith, length-append path (v ∷ []), up_to t h);
    rises = (λ t h. s.starts_in t h, s.rises);
    grounded = grounded_so;
  }
    where
      up_to : (t : ℕ) → Contains (n ∷ starts) t → t ≤ n
      up_to t h = elim (one_of n starts t h) [ inl same ↦ omega arith | inr there ↦ (let l = s.starts_in t there in omega arith) ]

  -- a node, its edges and its group are paid by its weight
  pub work_opened : work_left M (n ∷ starts) W < work_left marks starts ws
  work_opened =
      let sums = sum_by-set weight_of marks v (Open n) (New degree) within in
      let at : weight_of (get_or marks v (New degree)) ≡ degree + 2 = ap weight_of (get_or_from_slice_get marks v (New degree) (New degree) is_new) in
      let long = waits_length n targets.items ws in
      let d = s.degrees v degree targets is_new are in
      omega arith
