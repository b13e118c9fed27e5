use Rattle.string_ops.specs.CutBack.{back_rows, back_lasts}
use Rattle.string_ops.proofs.PlanStates.{StatesSoFar}
use Rattle.string_ops.proofs.cut_back.back_table.Given as goal

abbrev pub invariant-loop-state : goal.invariant-loop-state
invariant-loop-state l =
    StatesSoFar l.table l.cut.states (back_rows l.cut.states l.cut.last l.cut.len) (back_lasts l.cut.states l.cut.last l.cut.len) l.state
