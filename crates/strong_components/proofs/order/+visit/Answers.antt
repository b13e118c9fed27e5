use Rattle.std.proofs.Common.{◌≡◌, ◌<◌, sym, List, ℕ, take, length, Some, slice_get, get_or, arith, subst, refl, set}
use Rattle.std.proofs.lemmas.Grind.{common_steps}
use Rattle.std.proofs.lemmas.Option.{slice_get_read, slice_get_within}
use Rattle.strong_components.specs.declared.order.Mark.TheVariants.{New, Done}
use Rattle.strong_components.specs.declared.order.Mark.{Mark}
use Rattle.strong_components.specs.Walk.{IsWalk}
use Rattle.strong_components.proofs.OrderListLemmas.{set_at}
use Rattle.strong_components.proofs.WalkLemmas.{edge_at, lead_to_target, begins, next_done, visited, ends, all_targets, went_on, less}
use Rattle.strong_components.proofs.order.+visit.Goals as goal

pub index-requires : goal.index-requires
index-requires t c =
    let node_in : c.args.node < length c.args.edges.now = let h = slice_get_within c.args.marks.now.items c.args.node New c.requires.new in let s = c.requires.walk.size in omega arith in
    let at = slice_get_read c.args.edges.now _ c.args.node c.index-edges-node.result refl node_in c.index-edges-node.is in
    let edge = edge_at c.args.edges.now c.args.node c.index-edges-node.result c.as_slice-targets.result.now c.loop-target.target-index at c.as_slice-targets.ensures c.loop-target-test.true in
    let inside = c.requires.inside _ _ edge in
    let s = c.loop-target.invariant.walk.size in
    omega arith

pub returns-in-Open-clause-cycle : goal.returns-in-Open-clause-cycle
returns-in-Open-clause-cycle t c =
    let node_in : c.args.node < length c.args.edges.now = let h = slice_get_within c.args.marks.now.items c.args.node New c.requires.new in let s = c.requires.walk.size in omega arith in
    let at = slice_get_read c.args.edges.now _ c.args.node c.index-edges-node.result refl node_in c.index-edges-node.is in
    let edge = edge_at c.args.edges.now c.args.node c.index-edges-node.result c.as_slice-targets.result.now c.loop-target.target-index at c.as_slice-targets.ensures c.loop-target-test.true in
    let inside = c.requires.inside _ _ edge in
    let here = lead_to_target _ _ _ _ _ _ _ c.requires.here c.loop-target.invariant edge in
    let s = c.loop-target.invariant.walk.size in
    let target_in : get_or c.as_slice-targets.result.now c.loop-target.target-index 0 < length c.loop-target.marks.items = omega arith in
    here _ (let P : Mark → Type 0 = λ m. slice_get c.loop-target.marks.items (get_or c.as_slice-targets.result.now c.loop-target.target-index 0) ≡ Some m in subst P c.in-Open.is (slice_get_read c.loop-target.marks.items _ _ c.index.result.now refl target_in c.index.ensures))

pub visit-requires : goal.visit-requires
visit-requires t c =
    let node_in : c.args.node < length c.args.edges.now = let h = slice_get_within c.args.marks.now.items c.args.node New c.requires.new in let s = c.requires.walk.size in omega arith in
    let at = slice_get_read c.args.edges.now _ c.args.node c.index-edges-node.result refl node_in c.index-edges-node.is in
    let edge = edge_at c.args.edges.now c.args.node c.index-edges-node.result c.as_slice-targets.result.now c.loop-target.target-index at c.as_slice-targets.ensures c.loop-target-test.true in
    let inside = c.requires.inside _ _ edge in
    let s = c.loop-target.invariant.walk.size in
    let target_in : get_or c.as_slice-targets.result.now c.loop-target.target-index 0 < length c.loop-target.marks.items = omega arith in
    let f = c.loop-target.invariant.fewer in
    let here = lead_to_target _ _ _ _ _ _ _ c.requires.here c.loop-target.invariant edge in
    let P : Mark → Type 0 = λ m. slice_get c.loop-target.marks.items (get_or c.as_slice-targets.result.now c.loop-target.target-index 0) ≡ Some m in
    let new = subst P c.in-New.is (slice_get_read c.loop-target.marks.items _ _ c.index.result.now refl target_in c.index.ensures) in
    (omega (arith, c.decreases), (c.requires.inside, (c.loop-target.invariant.walk, (here, new))))

pub index_mut-requires-2 : goal.index_mut-requires-2
index_mut-requires-2 t c =
    let h = slice_get_within c.args.marks.now.items c.args.node New c.requires.new in
    let s = c.requires.walk.size in
    let s' = c.loop-target.invariant.walk.size in
    omega arith

pub returns-clause-walk : goal.returns-clause-walk
returns-clause-walk t c =
    let node_in : c.args.node < length c.args.edges.now = let h = slice_get_within c.args.marks.now.items c.args.node New c.requires.new in let s = c.requires.walk.size in omega arith in
    let at = slice_get_read c.args.edges.now _ c.args.node c.index-edges-node.result refl node_in c.index-edges-node.is in
    let whole : take c.loop-target.target-index c.as_slice-targets.result.now ≡ c.as_slice-targets.result.now = grind (arith, common_steps) in
    subst (λ (o : List ℕ). IsWalk c.args.edges.now (set c.loop-target.marks.items c.args.node Done) o) (sym c.in_ok-put.ensures)
    (ends c.args.edges.now c.loop-target.marks.items c.loop-target.order.items c.args.node c.loop-target.invariant.walk node_in
    (all_targets _ _ _ _ _ _ _ _ c.loop-target.invariant at c.as_slice-targets.ensures whole))

pub returns-clause-goes_on : goal.returns-clause-goes_on
returns-clause-goes_on t c = went_on _ _ _ _ _ _ c.loop-target.invariant

pub returns-clause-done : goal.returns-clause-done
returns-clause-done t c =
    let h = slice_get_within c.args.marks.now.items c.args.node New c.requires.new in
    let s = c.requires.walk.size in
    let s' = c.loop-target.invariant.walk.size in
    set_at c.loop-target.marks.items c.args.node Done (omega arith)

pub returns-clause-fewer : goal.returns-clause-fewer
returns-clause-fewer t c =
    let h = slice_get_within c.args.marks.now.items c.args.node New c.requires.new in
    let s = c.requires.walk.size in
    let s' = c.loop-target.invariant.walk.size in
    less c.loop-target.marks.items c.args.marks.now.items c.args.node (omega arith) c.loop-target.invariant.fewer

pub loop-target-init : goal.loop-target-init
loop-target-init t c = begins c.args.edges.now c.args.marks.now.items c.args.order.now.items c.args.node c.requires.walk c.requires.new

pub loop-target-preserved : goal.loop-target-preserved
loop-target-preserved t c =
    next_done _ _ _ _ _ c.as_slice-targets.result.now c.loop-target.target-index c.loop-target-test.true
    (visited _ _ _ _ _ _ _ _ c.loop-target.invariant c.in_ok-visit-in-New.ensures.walk c.in_ok-visit-in-New.ensures.goes_on c.in_ok-visit-in-New.ensures.fewer)
    c.in_ok-visit-in-New.ensures.done

pub loop-target-preserved-in-Done : goal.loop-target-preserved-in-Done
loop-target-preserved-in-Done t c =
    let node_in : c.args.node < length c.args.edges.now = let h = slice_get_within c.args.marks.now.items c.args.node New c.requires.new in let s = c.requires.walk.size in omega arith in
    let at = slice_get_read c.args.edges.now _ c.args.node c.index-edges-node.result refl node_in c.index-edges-node.is in
    let edge = edge_at c.args.edges.now c.args.node c.index-edges-node.result c.as_slice-targets.result.now c.loop-target.target-index at c.as_slice-targets.ensures c.loop-target-test.true in
    let inside = c.requires.inside _ _ edge in
    let s = c.loop-target.invariant.walk.size in
    let target_in : get_or c.as_slice-targets.result.now c.loop-target.target-index 0 < length c.loop-target.marks.items = omega arith in
    next_done _ _ _ _ _ c.as_slice-targets.result.now c.loop-target.target-index c.loop-target-test.true c.loop-target.invariant
    (let P : Mark → Type 0 = λ m. slice_get c.loop-target.marks.items (get_or c.as_slice-targets.result.now c.loop-target.target-index 0) ≡ Some m in subst P c.in-Done.is (slice_get_read c.loop-target.marks.items _ _ c.index.result.now refl target_in c.index.ensures))
