use Rattle.opener_steps.proofs.First.{first_read}
use Rattle.opener_steps.proofs.laws.first_read.Goals as goal

pub returns : goal.returns
returns c = first_read
