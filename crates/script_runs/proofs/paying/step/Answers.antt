use Rattle.script_runs.proofs.PayLemmas.{pays_step}
use Rattle.script_runs.proofs.paying.step.Goals as goal

pub returns : goal.returns
returns c = λ r fs. pays_step r fs c.args.pending.now _ _ c.args.walk _ _ _ c.requires c.in_ok-set_pair.ensures c.deref.ensures.value c.in_ok-push.ensures.ok
