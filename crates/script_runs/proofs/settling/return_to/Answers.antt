use Rattle.script_runs.proofs.SettleLemmas.{returned_so}
use Rattle.script_runs.proofs.settling.return_to.Goals as goal

pub returns : goal.returns
returns c = returned_so _ _ c.args.pending.now c.args.caller _ _ _ _ _ _ c.value_returned-value.ensures c.in_ok-pause.ensures c.resumed.ensures
