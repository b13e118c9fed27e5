use Rattle.script_runs.proofs.SettleLemmas.{evaluated_so}
use Rattle.script_runs.proofs.settling.evaluated.Goals as goal

pub returns : goal.returns
returns c = evaluated_so _ _ c.args.pending.now _ _ _ _ _ _ c.requires c.in_ok-pause.ensures c.resumed.ensures
