use Rattle.reference_steps.proofs.Values.{values_accepted}
use Rattle.reference_steps.proofs.laws.values_accepted.Goals as goal

pub returns : goal.returns
returns c = values_accepted
