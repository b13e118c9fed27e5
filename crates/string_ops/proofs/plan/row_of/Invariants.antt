use Rattle.std.specs.Prelude.{slice_get}
use Rattle.string_ops.proofs.PlanRows.{RowSoFar}
use Rattle.string_ops.proofs.plan.row_of.Given as goal

abbrev pub invariant-loop-byte : goal.invariant-loop-byte
invariant-loop-byte g l = RowSoFar l.named.items l.actions.items (g.P.Plan.states l.plan) (λ byte. slice_get (g.P.Plan.rows l.plan l.state byte) l.turn) l.byte
