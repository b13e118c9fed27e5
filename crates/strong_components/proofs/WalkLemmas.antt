-- How a walk goes on by one node.
use Rattle.std.proofs.Common.{◌≡◌, ◌<◌, ◌≤◌, ℕ, zero, suc, ◌+◌, List, [], ◌∷◌, ◌++◌, length, take, get_or, set, Some, slice_get, inl, inr, refl, sym, ◌∙◌, ap, subst, arith, length-set}
use Rattle.std.specs.Prelude.{◌⊎◌}
use Rattle.std.specs.List.{Contains, sum_by}
use Rattle.std.proofs.lemmas.List.{take_more, take-append-le}
use Rattle.std.proofs.lemmas.Grind.{common_steps}
use Rattle.std.proofs.lemmas.List.Sums.{sum_by-set}
use Rattle.std.proofs.lemmas.List.Elements.{Contains-push, Contains-push_cases, Contains-append_left, Contains-get_or}
use Rattle.std.proofs.lemmas.Option.{same_Some, slice_get_within, get_or_from_slice_get}
use Rattle.smallvec.specs.SmallVec.{SmallVec}
use Rattle.strong_components.specs.declared.order.Mark.{Mark}
use Rattle.strong_components.specs.declared.order.Mark.TheVariants.{New, Open, Done}
use Rattle.strong_components.specs.Edges.{HasEdge, Leads, by_edge, onward, IsSorted}
use Rattle.strong_components.specs.Walk.{weight_of, IsWalk, GoesOn, LeadHere}
use Rattle.strong_components.proofs.OrderListLemmas.{push_cases, set_cases, kept_cases, set_at}

-- within a visit of a node: the node is open beside those that were, and the first of its targets are done
pub record IsVisiting (edges : List (SmallVec ℕ)) (before marks : List Mark) (order : List ℕ) (node : ℕ) (first : List ℕ) : Type 0 where
  pub walk : IsWalk edges marks order
  pub opened : (k : ℕ) → slice_get marks k ≡ Some Open → (k ≡ node) ⊎ (slice_get before k ≡ Some Open)
  pub done : (k : ℕ) → slice_get before k ≡ Some Done → slice_get marks k ≡ Some Done
  pub targets : (target : ℕ) → Contains first target → slice_get marks target ≡ Some Done
  pub fewer : sum_by weight_of marks < sum_by weight_of before

pub leads_on : (edges : List (SmallVec ℕ)) (from node to : ℕ) → Leads edges from node → HasEdge edges node to → Leads edges from to
leads_on edges from node to (by_edge _ _ e) edge = onward from node to e (by_edge node to edge)
leads_on edges from node to (onward _ next _ e more) edge = onward from next to e (leads_on edges next node to more edge)

-- the target at a place of a node's list
pub edge_at : (edges : List (SmallVec ℕ)) (node : ℕ) (v : SmallVec ℕ) (targets : List ℕ) (i : ℕ) → slice_get edges node ≡ Some v → targets ≡ v.items → i < length targets → HasEdge edges node (get_or targets i 0)
edge_at edges node v targets i at same h =
    record { targets = v; are = at; among = subst (λ (ts : List ℕ). Contains ts (get_or targets i 0)) same (Contains-get_or targets i 0 h) }

-- from each open node edges lead to a target of the node that is visited
pub lead_to_target : (edges : List (SmallVec ℕ)) (before marks : List Mark) (order : List ℕ) (node : ℕ) (first : List ℕ) (target : ℕ)
    → LeadHere edges before node → IsVisiting edges before marks order node first → HasEdge edges node target → LeadHere edges marks target
lead_to_target edges before marks order node first target here visiting edge k is_open = elim (visiting.opened k is_open) [
  | inl same ↦ by_edge k target (subst (λ n. HasEdge edges n target) (sym same) edge)
  | inr was ↦ leads_on edges k node target (here k was) edge
]

differ : Some New ≡ Some Done → ⊥
differ e = cc

open_not_done : Some Open ≡ Some Done → ⊥
open_not_done e = cc

done_not_open : Some Done ≡ Some Open → ⊥
done_not_open e = cc

new_not_open : Some New ≡ Some Open → ⊥
new_not_open e = cc

mark_differs : Open ≡ Done → ⊥
mark_differs e = cc

-- the node is opened
pub begins : (edges : List (SmallVec ℕ)) (before : List Mark) (order : List ℕ) (node : ℕ) → IsWalk edges before order → slice_get before node ≡ Some New
    → IsVisiting edges before (set before node Open) order node []
begins edges before order node walk new = record {
  walk = record {
    size = length-set before node Open ∙ walk.size;
    listed = λ k e. elim (set_cases before node Open k Done e) [ inl p ↦ absurd (mark_differs p.1) | inr was ↦ walk.listed k was ];
    within = walk.within;
    sorted = walk.sorted;
  };
  opened = λ k e. elim (set_cases before node Open k Open e) [ inl p ↦ inl p.0 | inr was ↦ inr was ];
  done = λ k e. elim (kept_cases before node Open k Done e) [
    | inl p ↦ absurd (differ (sym new ∙ ap (slice_get before) (sym p.0) ∙ e))
    | inr kept ↦ kept
  ];
  targets = λ k among. absurd (let h = among.1 in omega arith);
  fewer =
      let lt = slice_get_within before node New new in
      let at = get_or_from_slice_get before node New Done new in
      let sums = sum_by-set weight_of before node Open Done lt in
      let w : weight_of (get_or before node Done) ≡ 1 = ap weight_of at in
      omega (arith, sums, w);
}

-- one target more is done
pub next_done : (edges : List (SmallVec ℕ)) (before marks : List Mark) (order : List ℕ) (node : ℕ) (targets : List ℕ) (i : ℕ)
    → i < length targets → IsVisiting edges before marks order node (take i targets) → slice_get marks (get_or targets i 0) ≡ Some Done
    → IsVisiting edges before marks order node (take (i + 1) targets)
next_done edges before marks order node targets i lt v done = record {
  walk = v.walk;
  opened = v.opened;
  done = v.done;
  targets = λ target among. elim (Contains-push_cases (take i targets) (get_or targets i 0) target (subst (λ (ts : List ℕ). Contains ts target) (take_more targets i 0 lt) among)) [
    | inl first ↦ v.targets target first
    | inr same ↦ subst (λ t. slice_get marks t ≡ Some Done) same done
  ];
  fewer = v.fewer;
}

-- a target was visited
pub visited : (edges : List (SmallVec ℕ)) (before marks after : List Mark) (order order' : List ℕ) (node : ℕ) (first : List ℕ)
    → IsVisiting edges before marks order node first → IsWalk edges after order' → GoesOn marks after → sum_by weight_of after ≤ sum_by weight_of marks
    → IsVisiting edges before after order' node first
visited edges before marks after order order' node first v walk on fewer = record {
  walk = walk;
  opened = λ k e. v.opened k (on.opened k e);
  done = λ k e. on.done k (v.done k e);
  targets = λ target among. on.done target (v.targets target among);
  fewer = let h = v.fewer in omega arith;
}

-- all targets are done, and the node is put at the end of the order
sorted_push : (edges : List (SmallVec ℕ)) (order : List ℕ) (node : ℕ) → IsSorted edges order → ((to : ℕ) → HasEdge edges node to → Contains order to) → IsSorted edges (order ++ node ∷ [])
sorted_push edges order node sorted all k from to at edge = elim (push_cases order node k from at) [
  | inl p ↦ let le : k ≤ length order = let h = p.0 in omega arith in subst (λ (xs : List ℕ). Contains xs to) (sym (take-append-le k order (node ∷ []) le)) (sorted k from to p.1 edge)
  | inr p ↦
      let le : k ≤ length order = let h = p.0 in omega arith in
      let whole : take k order ≡ order = take_all k order p.0 in
      subst (λ (xs : List ℕ). Contains xs to) (sym (take-append-le k order (node ∷ []) le ∙ whole)) (all to (subst (λ n. HasEdge edges n to) (sym p.1) edge))
]
  where
    take_all : (k : ℕ) (xs : List ℕ) → k ≡ length xs → take k xs ≡ xs
    take_all k xs e = grind (arith, common_steps)

pub ends : (edges : List (SmallVec ℕ)) (marks : List Mark) (order : List ℕ) (node : ℕ) → IsWalk edges marks order → node < length edges
    → ((to : ℕ) → HasEdge edges node to → slice_get marks to ≡ Some Done) → IsWalk edges (set marks node Done) (order ++ node ∷ [])
ends edges marks order node walk lt all = record {
  size = length-set marks node Done ∙ walk.size;
  listed = λ k e. elim (set_cases marks node Done k Done e) [
    | inl p ↦ subst (Contains (order ++ node ∷ [])) (sym p.0) (Contains-push order node)
    | inr was ↦ Contains-append_left order (node ∷ []) k (walk.listed k was)
  ];
  within = λ k among. elim (Contains-push_cases order node k among) [ inl was ↦ walk.within k was | inr same ↦ subst (λ n. n < length edges) same lt ];
  sorted = sorted_push edges order node walk.sorted (λ to edge. walk.listed to (all to edge));
}

pub all_targets : (edges : List (SmallVec ℕ)) (before marks : List Mark) (order : List ℕ) (node : ℕ) (v : SmallVec ℕ) (targets first : List ℕ)
    → IsVisiting edges before marks order node first → slice_get edges node ≡ Some v → targets ≡ v.items → first ≡ targets
    → (to : ℕ) → HasEdge edges node to → slice_get marks to ≡ Some Done
all_targets edges before marks order node v targets first visiting at same all to edge =
    let own : edge.targets ≡ v = same_Some edge.targets v (sym edge.are ∙ at) in
    let items : edge.targets.items ≡ first = ap (λ (w : SmallVec ℕ). w.items) own ∙ sym same ∙ sym all in
    visiting.targets to (subst (λ (ts : List ℕ). Contains ts to) items edge.among)

pub went_on : (edges : List (SmallVec ℕ)) (before marks : List Mark) (order : List ℕ) (node : ℕ) (first : List ℕ)
    → IsVisiting edges before marks order node first → GoesOn before (set marks node Done)
went_on edges before marks order node first v = record {
  opened = λ k e. elim (set_cases marks node Done k Open e) [
    | inl p ↦ absurd (mark_differs (sym p.1))
    | inr was ↦ elim (v.opened k was) [
      | inl same ↦ absurd (other k was e same)
      | inr before_open ↦ before_open
    ]
  ];
  done = λ k e. elim (kept_cases marks node Done k Done (v.done k e)) [ inl p ↦ p.1 | inr kept ↦ kept ];
}
  where
    other : (k : ℕ) → slice_get marks k ≡ Some Open → slice_get (set marks node Done) k ≡ Some Open → k ≡ node → ⊥
    other k was now same = elim (kept_cases marks node Done k Open was) [
      | inl p ↦ done_not_open (sym p.1 ∙ now)
      | inr kept ↦ open_not_done (sym now ∙ ap (slice_get (set marks node Done)) same ∙ set_at marks node Done (subst (λ n. n < length marks) same (slice_get_within marks k Open was)))
    ]

pub less : (marks before : List Mark) (node : ℕ) → node < length marks → sum_by weight_of marks < sum_by weight_of before → sum_by weight_of (set marks node Done) ≤ sum_by weight_of before
less marks before node lt fewer = let sums = sum_by-set weight_of marks node Done Done lt in omega (arith, sums)

-- before the walk each node is new
pub fresh : (edges : List (SmallVec ℕ)) (marks : List Mark) → length marks ≡ length edges → ((k : ℕ) → k < length marks → slice_get marks k ≡ Some New)
    → IsWalk edges marks [] × ((k : ℕ) → slice_get marks k ≡ Some Open → ⊥)
fresh edges marks size new = (
  record {
    size = size;
    listed = λ k e. absurd (differ (sym (new k (slice_get_within marks k Done e)) ∙ e));
    within = λ k among. absurd (let h = among.1 in omega arith);
    sorted = λ k from to at edge. absurd (none k from at);
  },
  λ k e. new_not_open (sym (new k (slice_get_within marks k Open e)) ∙ e),
)
  where
    none : (k from : ℕ) → slice_get {X = ℕ} [] k ≡ Some from → ⊥
    none k from e = let h = slice_get_within [] k from e in omega arith

pub all_new_push : (marks : List Mark) → ((k : ℕ) → k < length marks → slice_get marks k ≡ Some New) → (k : ℕ) → k < length (marks ++ New ∷ []) → slice_get (marks ++ New ∷ []) k ≡ Some New
all_new_push [] h zero lt = refl
all_new_push [] h (suc k) lt = absurd (omega arith)
all_new_push (m ∷ ms) h zero lt = h zero (omega arith)
all_new_push (m ∷ ms) h (suc k) lt = all_new_push ms (λ i l. h (suc i) (omega arith)) k (omega arith)
