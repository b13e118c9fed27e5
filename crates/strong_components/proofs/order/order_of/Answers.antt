use Rattle.std.proofs.Common.{◌≡◌, ◌<◌, ℕ, List, Some, slice_get, length, refl, sym, subst, arith, below_more}
use Rattle.std.proofs.lemmas.Option.{slice_get_read}
use Rattle.strong_components.specs.declared.order.Mark.{Mark}
use Rattle.strong_components.specs.Walk.{IsWalk}
use Rattle.strong_components.proofs.WalkLemmas.{fresh}
use Rattle.strong_components.proofs.order.order_of.Goals as goal

pub visit-requires : goal.visit-requires
visit-requires c =
    let s = c.loop-node.invariant.0.size in
    let node_in : c.loop-node.node < length c.loop-node.marks.items = omega arith in
    let P : Mark → Type 0 = λ m. slice_get c.loop-node.marks.items c.loop-node.node ≡ Some m in
    record {
      inside = c.requires;
      walk = c.loop-node.invariant.0;
      here = λ k e. absurd (c.loop-node.invariant.1 k e);
      new = subst P c.in-New.is (slice_get_read c.loop-node.marks.items _ _ c.index.result.now refl node_in c.index.ensures);
    }

pub loop-node-init : goal.loop-node-init
loop-node-init c =
    let first = fresh c.args.edges.now c.in_ok-marks.marks.items c.in_ok-marks.ensures.size c.in_ok-marks.ensures.all in
    (subst (λ (o : List ℕ). IsWalk c.args.edges.now c.in_ok-marks.marks.items o) (sym c.new-order.ensures.items) first.0, first.1, λ k h. absurd (omega arith))

pub loop-node-preserved : goal.loop-node-preserved
loop-node-preserved c = (
  c.in_ok-visit-in-New.ensures.walk,
  λ k e. c.loop-node.invariant.1 k (c.in_ok-visit-in-New.ensures.goes_on.opened k e),
  below_more _ _ (λ k h. c.in_ok-visit-in-New.ensures.goes_on.done k (c.loop-node.invariant.2 k h)) c.in_ok-visit-in-New.ensures.done,
)

pub loop-node-preserved-in-Done : goal.loop-node-preserved-in-Done
loop-node-preserved-in-Done c =
    let s = c.loop-node.invariant.0.size in
    let node_in : c.loop-node.node < length c.loop-node.marks.items = omega arith in
    let P : Mark → Type 0 = λ m. slice_get c.loop-node.marks.items c.loop-node.node ≡ Some m in
    let done = subst P c.in-Done.is (slice_get_read c.loop-node.marks.items _ _ c.index.result.now refl node_in c.index.ensures) in
    (c.loop-node.invariant.0, c.loop-node.invariant.1, below_more _ _ c.loop-node.invariant.2 done)

pub loop-node-preserved-in-Open : goal.loop-node-preserved-in-Open
loop-node-preserved-in-Open c =
    let s = c.loop-node.invariant.0.size in
    let node_in : c.loop-node.node < length c.loop-node.marks.items = omega arith in
    let P : Mark → Type 0 = λ m. slice_get c.loop-node.marks.items c.loop-node.node ≡ Some m in
    let is_open = subst P c.in-Open.is (slice_get_read c.loop-node.marks.items _ _ c.index.result.now refl node_in c.index.ensures) in
    absurd (c.loop-node.invariant.1 _ is_open)

pub returns-clause-order : goal.returns-clause-order
returns-clause-order c = record {
  all = λ node h. c.loop-node.invariant.0.listed node (c.loop-node.invariant.2 node (let t = c.loop-node-test.false in omega arith));
  within = c.loop-node.invariant.0.within;
  sorted = c.loop-node.invariant.0.sorted;
}
