use Rattle.derivatives.proofs.Living.{stays_normal}
use Rattle.derivatives.proofs.laws.derivatives_stay_normal.Goals as goal

pub returns : goal.returns
returns c = stays_normal
