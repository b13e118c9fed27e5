use Rattle.string_ops.proofs.PlanStates.{StatesSoFar}
use Rattle.string_ops.proofs.plan.table_of.Given as goal

abbrev pub invariant-loop-state : goal.invariant-loop-state
invariant-loop-state g l = StatesSoFar l.table (g.P.Plan.states l.plan) (g.P.Plan.rows l.plan) (g.P.Plan.lasts l.plan) l.state
