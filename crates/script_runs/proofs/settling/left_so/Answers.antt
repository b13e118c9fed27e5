use Rattle.script_runs.proofs.SettleLemmas.{leaves_task, leaves_script, left_to_call}
use Rattle.script_runs.proofs.settling.left_so.Goals as goal

pub returns-in_ok-next-in-Some : goal.returns-in_ok-next-in-Some
returns-in_ok-next-in-Some c = leaves_task _ _ c.args.pending.now _ _ _ _ c.in-Some.ensures c.requires c.in_ok-next-in-Some.ensures

pub returns-in-Some-pop : goal.returns-in-Some-pop
returns-in-Some-pop c = left_to_call _ _ c.args.pending.now _ _ _ _ _ _ c.in-None.ensures.0 c.in-Some-pop.ensures c.return_to.ensures

pub returns-in-None-pop : goal.returns-in-None-pop
returns-in-None-pop c = leaves_script _ _ c.args.pending.now _ _ _ c.in-None.ensures.0 c.in-None-pop.ensures.0
