use Rattle.std.proofs.Common.{refl}
use Rattle.script_runs.proofs.GiveLemmas.{walk_on, walk_left}
use Rattle.script_runs.proofs.flows.walk_behind.Goals as goal

pub returns-in-Ok : goal.returns-in-Ok
returns-in-Ok c = walk_on _ _ _ _ refl c.in-Ok.ensures c.in_ok-next-in-Ok.ensures

pub returns : goal.returns
returns c = walk_left _ _ _ _ refl c.in-Err.ensures
