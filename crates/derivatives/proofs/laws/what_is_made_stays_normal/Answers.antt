use Rattle.derivatives.proofs.Living.{makes_normal}
use Rattle.derivatives.proofs.laws.what_is_made_stays_normal.Goals as goal

pub returns : goal.returns
returns c = makes_normal
