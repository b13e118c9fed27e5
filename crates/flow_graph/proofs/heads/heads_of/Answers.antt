use Rattle.std.proofs.Common.{◌≡◌, ◌≤◌, ◌+◌, inl, inr, ℕ, List, Some, sym, subst, arith, slice_get}
use Rattle.flow_graph.specs.Steps.{steps_seen}
use Rattle.flow_graph.specs.Heads.{AreHeads, RowsGoOn}
use Rattle.flow_graph.proofs.HeadLemmas.{one_more, ends_here, more_on}
use Rattle.flow_graph.proofs.heads.heads_of.Goals as goal

pub loop-point-preserved : goal.loop-point-preserved
loop-point-preserved c =
    let steps = steps_seen c.args.steps.now in
    let all = c.args.arrivals.now.all.items in
    let heads = c.loop-point.heads.items in
    let n = c.loop-point.point in
    let last = c.loop-point.head in
    let h = c.head_at-head.result in
    let are = c.loop-point.invariant in
    let is = sym c.in_ok-push.ensures.items in
    let low : h ≤ n + 1 = elim c.head_at-head.ensures.head [ inl e ↦ omega arith | inr e ↦ (let a = e.0 in let b = are.2 in omega arith) ] in (
      omega (arith, c.in_ok-push.ensures.len, are.0),
      subst (λ (hs : List ℕ). AreHeads steps all hs) is (one_more steps all heads n last h are.0 are.1 are.2 are.3 c.head_at-head.ensures.head),
      low,
      λ p e. subst (λ (hs : List ℕ). slice_get hs p ≡ Some h) is (ends_here heads n h p are.0 (omega arith)),
      λ long. subst (λ (hs : List ℕ). RowsGoOn steps all hs) is (more_on steps all heads n last h are.0 (are.4 long) are.3 (λ goes. c.head_at-head.ensures.on (omega arith) goes)),
    )
