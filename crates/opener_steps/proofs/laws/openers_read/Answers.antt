use Rattle.opener_steps.proofs.Openers.{openers_read}
use Rattle.opener_steps.proofs.laws.openers_read.Goals as goal

pub returns : goal.returns
returns c = openers_read
