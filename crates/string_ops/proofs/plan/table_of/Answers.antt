use Rattle.std.proofs.Common.{arith}
use Rattle.string_ops.proofs.PlanStates.{states_all}
use Rattle.string_ops.proofs.plan.table_of.Goals as goal

pub returns : goal.returns
returns g c = states_all _ _ _ _ _ c.loop-state.invariant (omega arith) (g.P.Plan.no_rows c.args.plan.now) (g.P.Plan.no_lasts c.args.plan.now)
