use Rattle.std.proofs.Common.{refl}
use Rattle.script_runs.proofs.GiveLemmas.{loop_on, loop_left}
use Rattle.script_runs.proofs.flows.loop_behind.Goals as goal

pub returns-in-Ok : goal.returns-in-Ok
returns-in-Ok c = loop_on _ _ _ _ refl c.in-Ok.ensures c.before_loop.ensures

pub returns-in-Err : goal.returns-in-Err
returns-in-Err c = loop_left _ _ _ _ refl c.in-Err.ensures
