use Rattle.content_automata.specs.Shapes as shapes
use Rattle.content_automata.specs.Views.{shape_of}
use Rattle.content_automata.proofs.TableLemmas.{adds_both, adds_child, row_found, row_long, all_filled, one_filled}
use Rattle.content_automata.proofs.table.cells.Goals as goal

pub returns-in_err-one-clause-adds : goal.returns-in_err-one-clause-adds
returns-in_err-one-clause-adds c =
    let at = row_found (shapes.state_behind c.args.count (shape_of c.args.model.now) c.args.flags.now) _ _ c.args.count c.loop-behind.behind-index _ c.in_ok-row.ensures c.deref-behind-items.ensures.value c.loop-behind-test.true c.behind-item.is in
    adds_both _ _ _ _ _ _ c.loop-behind.invariant.adds (adds_child _ _ _ _ _ _ _ at.0 at.1 c.cell.ensures.adds)

pub returns-in-Err-clause-adds : goal.returns-in-Err-clause-adds
returns-in-Err-clause-adds c =
    let at = row_found (shapes.state_behind c.args.count (shape_of c.args.model.now) c.args.flags.now) _ _ c.args.count c.loop-behind.behind-index _ c.in_ok-row.ensures c.deref-behind-items.ensures.value c.loop-behind-test.true c.behind-item.is in
    adds_both _ _ _ _ _ _ c.loop-behind.invariant.adds (adds_child _ _ _ _ _ _ _ at.0 at.1 c.cell.ensures.adds)

pub loop-behind-preserved : goal.loop-behind-preserved
loop-behind-preserved c =
    let at = row_found (shapes.state_behind c.args.count (shape_of c.args.model.now) c.args.flags.now) _ _ c.args.count c.loop-behind.behind-index _ c.in_ok-row.ensures c.deref-behind-items.ensures.value c.loop-behind-test.true c.behind-item.is in
    one_filled _ _ _ _ _ _ _ _ _ _ _ c.loop-behind.invariant c.in_ok-one.ensures.keeps c.in_ok-one.ensures.few c.in_ok-one.ensures.adds c.in_ok-one.ensures.cell at c.in-Ok.ensures.items

pub returns-clause-cells : goal.returns-clause-cells
returns-clause-cells c =
    all_filled _ _ _ _ _ _ _ (row_long (shapes.state_behind c.args.count (shape_of c.args.model.now) c.args.flags.now) _ _ c.args.count c.in_ok-row.ensures c.deref-behind-items.ensures.value) c.loop-behind-test.false c.loop-behind.invariant.within c.loop-behind.invariant.cells_fit
