use Rattle.target_steps.proofs.Targets.{targets_read}
use Rattle.target_steps.proofs.laws.targets_read.Goals as goal

pub returns : goal.returns
returns c = targets_read
