use Rattle.script_runs.proofs.PayLemmas.{pays_turn}
use Rattle.script_runs.proofs.paying.turn.Goals as goal

pub returns : goal.returns
returns c = λ r fs. pays_turn r fs c.args.pending.now c.args.again _ _ c.requires c.deref.ensures.value c.in_ok-push.ensures.ok
