use Rattle.std.proofs.Common.{arith}
use Rattle.string_ops.specs.CutBack.{back_row, back_last, back_rows, back_lasts}
use Rattle.string_ops.specs.PlanLaws.{no_rows, no_lasts}
use Rattle.string_ops.proofs.PlanStates.{states_more, states_all}
use Rattle.string_ops.proofs.CutBackLemmas.{state_below}
use Rattle.string_ops.proofs.cut_back.back_table.Goals as goal

pub loop-state-preserved : goal.loop-state-preserved
loop-state-preserved c =
    let cut = c.args.cut in
    states_more c.loop-state.table c.add_state.new.table cut.states (back_rows cut.states cut.last cut.len) (back_lasts cut.states cut.last cut.len) c.loop-state.state c.loop-state.invariant
    (state_below c.loop-state.table c.add_state.new.table cut.states c.loop-state.state (back_row cut.last cut.len) (back_last cut.last cut.len) c.loop-state-test.true c.in_ok-add_state.ensures)

pub returns : goal.returns
returns c =
    let cut = c.args.cut in
    states_all _ _ _ _ _ c.loop-state.invariant (omega arith) (no_rows cut.states (back_row cut.last cut.len)) (no_lasts cut.states (back_last cut.last cut.len))
