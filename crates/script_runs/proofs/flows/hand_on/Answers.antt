use Rattle.script_runs.proofs.GiveLemmas.{rest_on, task_as}
use Rattle.script_runs.proofs.flows.hand_on.Goals as goal

pub returns-in-Rest : goal.returns-in-Rest
returns-in-Rest c = rest_on _ _ _ _ c.in-Rest.is c.rest_next.ensures

pub returns-in-Loop : goal.returns-in-Loop
returns-in-Loop c = task_as _ _ _ _ c.in-Loop.is c.loop_behind.ensures

pub returns-in_ok-next-in-Walk : goal.returns-in_ok-next-in-Walk
returns-in_ok-next-in-Walk c = task_as _ _ _ _ c.in-Walk.is c.in_ok-next-in-Walk.ensures
