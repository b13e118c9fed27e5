use Rattle.std.proofs.Common.{◌≡◌, List, refl, sym, ◌∙◌, subst, ◌<◌, ◌≤◌, length, get_or, ap, Contains}
use Rattle.std.proofs.lemmas.Bool.{false≢true}
use Rattle.fst_core.specs.Layers.{StopsBy}
use Rattle.fst_core.specs.declared.moves.TableEnd.{TableEnd}
use Rattle.fst_core.proofs.LayerLemmas.{none_stops_more, stops_gives, none_gives}
use Rattle.fst_core.proofs.layers.stops_at.Goals as goal

pub returns-then-stops_by : goal.returns-then-stops_by
returns-then-stops_by c =
    let e = c.end-item.result in
    let ends = c.args.table.now.ends.items in
    let at : Contains ends e = subst (λ (x : List TableEnd). Contains x e) c.deref-end-items.ensures.value (c.loop-end.end-index, c.loop-end-test.true, sym c.end-item.is) in
    (λ t. stops_gives c.args.table.now c.args.layer.now.keys c.args.output.now e at (c.stops_by.ensures.0 c.if-stops_by.true), λ g. refl)

pub loop-end-preserved : goal.loop-end-preserved
loop-end-preserved c =
    let e = c.end-item.result in
    let ends = c.args.table.now.ends.items in
    let keys = c.args.layer.now.keys in
    let output = c.args.output.now in
    let within : c.loop-end.end-index < length ends = rw c.deref-end-items.ensures.value at c.loop-end-test.true in
    let same : e ≡ get_or ends c.loop-end.end-index e = c.end-item.is ∙ ap (λ (x : List TableEnd). get_or x c.loop-end.end-index e) c.deref-end-items.ensures.value in
    none_stops_more ends c.loop-end.end-index e keys output within c.loop-end.invariant
    (λ s. false≢true (sym c.if-stops_by.false ∙ c.stops_by.ensures.1 (subst (λ (x : TableEnd). StopsBy keys output x) (sym same) s)))

pub returns : goal.returns
returns c =
    let past : length c.args.table.now.ends.items ≤ c.loop-end.end-index = rw c.deref-end-items.ensures.value at c.loop-end-test.false in
    (λ t. absurd (false≢true t), λ g. absurd (none_gives c.args.table.now c.args.layer.now.keys c.args.output.now c.loop-end.end-index past c.loop-end.invariant g))
