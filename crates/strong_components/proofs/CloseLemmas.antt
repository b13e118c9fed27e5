-- The last group of the path is a component.
use Rattle.std.proofs.Common.{◌≡◌, ◌<◌, ◌≤◌, ◌+◌, ℕ, zero, suc, List, [], ◌∷◌, ◌++◌, length, length-append, take, set, Some, slice_get, inl, inr, refl, sym, ◌∙◌, ap, subst, arith, length-set, length-take}
use Rattle.std.specs.List.{Contains}
use Rattle.smallvec.specs.SmallVec.{SmallVec}
use Rattle.std.proofs.lemmas.Option.{same_Some, slice_get_within}
use Rattle.std.proofs.lemmas.Bool.{cases_lt, cases_eq}
use Rattle.std.proofs.lemmas.List.Sums.{sum_by-set}
use Rattle.strong_components.specs.Edges.{HasEdge}
use Rattle.strong_components.proofs.OrderListLemmas.{set_cases, kept_cases, set_at}
use Rattle.strong_components.specs.Components.{Reaches}
use Rattle.strong_components.specs.declared.marks.Mark.{Mark}
use Rattle.strong_components.specs.declared.marks.Mark.TheVariants.{New, Open, Done}
use Rattle.strong_components.specs.declared.marks.Waiting.{Waiting}
use Rattle.strong_components.specs.Search.{weight_of, IsDoneBelow, IsExplored, IsGrounded, IsSearch, IsClosedMark, Closes, FewerNew}
use Rattle.strong_components.specs.Opening.{AreBefore}
use Rattle.strong_components.proofs.ListLemmas.{one_of, first_in, later_in, new_done, open_done, same_open, same_done, one_mark, in_take, from_take, at_end}

-- the last node is taken off
pub record IsPopped (whole now : List ℕ) (node : ℕ) (before : ℕ) : Type 0 where
  pub path : now ≡ take (length now) whole
  pub next : before ≡ length now + 1
  pub at : slice_get whole (length now) ≡ Some node

pub popped : (whole path now : List ℕ) (node : ℕ) → path ≡ take (length path) whole → length path ≤ length whole → path ≡ now ++ node ∷ [] → IsPopped whole now node (length path)
popped whole path now node is le e = record {
  path = front now (length path) whole node (sym e ∙ is) len;
  next = len;
  at = (from_take (length path) whole (length now) node (subst (λ (xs : List ℕ). slice_get xs (length now) ≡ Some node) is (subst (λ (xs : List ℕ). slice_get xs (length now) ≡ Some node) (sym e) (at_end now node)))).1;
}
  where
    len : length path ≡ length now + 1
    len = omega (arith, ap length e, length-append now (node ∷ []))

    front : (now : List ℕ) (n : ℕ) (whole : List ℕ) (node : ℕ) → now ++ node ∷ [] ≡ take n whole → n ≡ length now + 1 → now ≡ take (length now) whole
    front [] n whole node e is = refl
    front (x ∷ xs) zero whole node e is = absurd (omega arith)
    front (x ∷ xs) (suc n) [] node e is = absurd (let l = ap length e in omega arith)
    front (x ∷ xs) (suc n) (y ∷ ys) node e is = cc (front xs n ys node (cc) (omega arith))

-- nothing is closed yet
pub closes_none : (marks : List Mark) (path : List ℕ) (n number : ℕ) → length path ≤ n → Closes marks path n number marks
closes_none marks path n number le = record {
  long = refl;
  cases = λ u m e. IsClosedMark.as_before e (λ p l at. let w = slice_get_within path p u at in omega arith);
  done = λ p u l at. absurd (let w = slice_get_within path p u at in omega arith);
  kept = λ u m e none. e;
  weight = omega arith;
}

-- one node more
pub closes_more : (marks : List Mark) (path : List ℕ) (k n number : ℕ) (after : List Mark) (node : ℕ) → k ≡ n + 1 → Closes marks path k number after → slice_get path n ≡ Some node → node < length marks
    → Closes marks path n number (set after node (Done number))
closes_more marks path k n number after node next c at lt = record {
  long = length-set after node (Done number) ∙ c.long;
  cases = λ u m e. elim (cases_eq u node) [
    | inl same ↦ IsClosedMark.now_done n (omega arith) (at ∙ ap Some (sym same)) (one_mark (set after node (Done number)) node m (Done number) (subst (λ (y : ℕ). slice_get (set after node (Done number)) y ≡ Some m) same e) own)
    | inr other ↦ elim (set_cases after node (Done number) u m e) [ inl x ↦ absurd (other x.0) | inr was ↦ before u m other (c.cases u m was) ]
  ];
  done = λ p u le there. elim (cases_lt n p) [
    | inl behind ↦ still u (c.done p u (omega arith) there)
    | inr same ↦
        let e : p ≡ n = omega arith in
        let is : node ≡ u = same_Some node u (sym at ∙ ap (slice_get path) (sym e) ∙ there) in
        subst (λ (y : ℕ). slice_get (set after node (Done number)) y ≡ Some (Done number)) is own
  ];
  kept = λ u m e none. elim (kept_cases after node (Done number) u m (c.kept u m e (λ p le there. none p (omega arith) there))) [
    | inl x ↦ absurd (none n (omega arith) (at ∙ ap Some (sym x.0)))
    | inr is ↦ is
  ];
  weight = let sums = sum_by-set weight_of after node (Done number) (Done number) inside in let w = c.weight in omega arith;
}
  where
    inside : node < length after
    inside = let l = c.long in omega arith

    own : slice_get (set after node (Done number)) node ≡ Some (Done number)
    own = set_at after node (Done number) inside

    still : (u : ℕ) → slice_get after u ≡ Some (Done number) → slice_get (set after node (Done number)) u ≡ Some (Done number)
    still u e = elim (kept_cases after node (Done number) u (Done number) e) [ inl x ↦ x.1 | inr is ↦ is ]

    none_at : (u : ℕ) → ((p : ℕ) → k ≤ p → slice_get path p ≡ Some u → ⊥) → (node ≡ u → ⊥) → (p : ℕ) → n ≤ p → slice_get path p ≡ Some u → ⊥
    none_at u none other p le there = elim (cases_lt n p) [
      | inl behind ↦ none p (omega arith) there
      | inr same ↦ (let e : p ≡ n = omega arith in other (same_Some node u (sym at ∙ ap (slice_get path) (sym e) ∙ there)))
    ]

    before : (u : ℕ) (m : Mark) → (u ≡ node → ⊥) → IsClosedMark marks path k number u m → IsClosedMark marks path n number u m
    before u m other (IsClosedMark.now_done p le there is) = IsClosedMark.now_done p (omega arith) there is
    before u m other (IsClosedMark.as_before e none) = IsClosedMark.as_before e (none_at u none (λ x. other (sym x)))

module _ (edges : List (SmallVec ℕ)) (marks : List Mark) (path : List ℕ) (start : ℕ) (starts : List ℕ) (ws : List Waiting) (found : ℕ) (s : IsSearch edges marks path (start ∷ starts) ws found)
    (first : AreBefore ws start) (after : List Mark) (c : Closes marks path start found after) where
  abbrev P : List ℕ
  P = take start path

  same_place : (p q u : ℕ) → slice_get path p ≡ Some u → slice_get path q ≡ Some u → p ≡ q
  same_place p q u e f = same_open p q (one_mark marks u (Open p) (Open q) (s.opened p u e) (s.opened q u f))

  not_done : (p u n : ℕ) → slice_get path p ≡ Some u → slice_get marks u ≡ Some (Done n) → ⊥
  not_done p u n e d = open_done p n (one_mark marks u (Open p) (Done n) (s.opened p u e) d)

  done_after : (u n : ℕ) → slice_get marks u ≡ Some (Done n) → slice_get after u ≡ Some (Done n)
  done_after u n e = c.kept u (Done n) e (λ p le at. not_done p u n at e)

  open_after : (p u : ℕ) → p < start → slice_get path p ≡ Some u → slice_get after u ≡ Some (Open p)
  open_after p u lt e = c.kept u (Open p) (s.opened p u e) (λ q le at. let same = same_place p q u e at in omega arith)

  -- nodes of the group lead to nodes that are done
  closed_now : (p u v : ℕ) → start ≤ p → slice_get path p ≡ Some u → HasEdge edges u v → IsDoneBelow after found v
  closed_now p u v le at edge = so (s.explored p u v at edge)
    where
      so : IsExplored marks path (start ∷ starts) ws p v → IsDoneBelow after found v
      so (IsExplored.is_done n e) = record { number = n; is = done_after v n e; below = (let l = s.below v n e in omega arith) }
      so (IsExplored.is_open q e back) = record { number = found; is = c.done q v (back start (first_in start starts) le) e; below = omega arith }
      so (IsExplored.is_waiting h) = absurd (let l = first (record { from = p; to = v }) h in omega arith)

  closed_so : (u n v : ℕ) → slice_get after u ≡ Some (Done n) → HasEdge edges u v → IsDoneBelow after n v
  closed_so u n v e edge = so (c.cases u (Done n) e)
    where
      so : IsClosedMark marks path start found u (Done n) → IsDoneBelow after n v
      so (IsClosedMark.now_done p le at is) = subst (λ (m : ℕ). IsDoneBelow after m v) (sym (same_done n found is)) (closed_now p u v le at edge)
      so (IsClosedMark.as_before was none) = let d = s.closed u n v was edge in record { number = d.number; is = done_after v d.number d.is; below = d.below }

  -- the last group begins last
  up_to : (t : ℕ) → Contains (start ∷ starts) t → t ≤ start
  up_to t h = elim (one_of start starts t h) [ inl same ↦ omega arith | inr there ↦ (let l = s.rises.0 t there in omega arith) ]

  same_so : (u v n : ℕ) → slice_get after u ≡ Some (Done n) → slice_get after v ≡ Some (Done n) → Reaches edges u v
  same_so u v n e f = so (c.cases u (Done n) e) (c.cases v (Done n) f)
    where
      so : IsClosedMark marks path start found u (Done n) → IsClosedMark marks path start found v (Done n) → Reaches edges u v
      so (IsClosedMark.now_done p le at is) (IsClosedMark.now_done q le' at' is') = s.joined p q u v at at' (λ t h l. let m = up_to t h in omega arith)
      so (IsClosedMark.now_done p le at is) (IsClosedMark.as_before was none) = absurd (let l = s.below v n was in let e = same_done n found is in omega arith)
      so (IsClosedMark.as_before was none) (IsClosedMark.now_done q le at is) = absurd (let l = s.below u n was in let e = same_done n found is in omega arith)
      so (IsClosedMark.as_before was none) (IsClosedMark.as_before was' none') = s.same u v n was was'

  below_so : (u n : ℕ) → slice_get after u ≡ Some (Done n) → n < found + 1
  below_so u n e = so (c.cases u (Done n) e)
    where
      so : IsClosedMark marks path start found u (Done n) → n < found + 1
      so (IsClosedMark.now_done p le at is) = let e = same_done n found is in omega arith
      so (IsClosedMark.as_before was none) = let l = s.below u n was in omega arith

  placed_so : (u p : ℕ) → slice_get after u ≡ Some (Open p) → slice_get P p ≡ Some u
  placed_so u p e = so (c.cases u (Open p) e)
    where
      so : IsClosedMark marks path start found u (Open p) → slice_get P p ≡ Some u
      so (IsClosedMark.now_done q le at is) = absurd (open_done p found is)
      so (IsClosedMark.as_before was none) = let at = s.placed u p was in elim (cases_lt p start) [ inl lt ↦ in_take start path p u lt at | inr le ↦ absurd (none p le at) ]

  pub fewer_new : FewerNew marks after
  fewer_new u d e = so (c.cases u (New d) e)
    where
      so : IsClosedMark marks path start found u (New d) → slice_get marks u ≡ Some (New d)
      so (IsClosedMark.now_done q le at is) = absurd (new_done d found is)
      so (IsClosedMark.as_before was none) = was

  explored_so : (p u v : ℕ) → p < start → slice_get path p ≡ Some u → HasEdge edges u v → IsExplored after P starts ws p v
  explored_so p u v lt at edge = so (s.explored p u v at edge)
    where
      so : IsExplored marks path (start ∷ starts) ws p v → IsExplored after P starts ws p v
      so (IsExplored.is_done n e) = IsExplored.is_done n (done_after v n e)
      so (IsExplored.is_open q e back) = elim (cases_lt q start) [
        | inl before ↦ IsExplored.is_open q (in_take start path q v before e) (λ t h le. back t (later_in start starts t h) le)
        | inr behind ↦ IsExplored.is_done found (c.done q v behind e)
      ]
      so (IsExplored.is_waiting h) = IsExplored.is_waiting h

  begins : start < length path
  begins = s.starts_in start (first_in start starts)

  long : length P ≡ start
  long = let l = length-take start path in let b = begins in omega arith

  grounded_so : (p : ℕ) → p < length P → IsGrounded starts p
  grounded_so p lt =
      let g = s.grounded p (let b = begins in let l = long in omega arith) in
      elim (one_of start starts g.start g.has) [
        | inl same ↦ absurd (let b = g.before in let l = long in omega arith)
        | inr there ↦ record { start = g.start; has = there; before = g.before }
      ]

  pub closes : IsSearch edges after P starts ws (found + 1)
  closes = record {
    size = c.long ∙ s.size;
    degrees = λ u d ts e is. s.degrees u d ts (fewer_new u d e) is;
    placed = placed_so;
    opened = λ p u e. let f = from_take start path p u e in open_after p u f.0 f.1;
    joined = λ p q u v e f back. let x = from_take start path p u e in let y = from_take start path q v f in s.joined p q u v x.1 y.1 (λ t h le. elim (one_of start starts t h) [ inl same ↦ absurd (let l = x.0 in omega arith) | inr there ↦ back t there le ]);
    closed = closed_so;
    same = same_so;
    below = below_so;
    explored = λ p u v e edge. let x = from_take start path p u e in explored_so p u v x.0 x.1 edge;
    waiting_edge = λ w h. let e = s.waiting_edge w h in (e.0, in_take start path w.from e.0 (first w h) e.1, e.2);
    sorted = s.sorted;
    starts_in = λ t h. let l = s.rises.0 t h in let g = long in omega arith;
    rises = s.rises.1;
    grounded = grounded_so;
  }
