use Rattle.derivatives.proofs.Living.{fails_at_once}
use Rattle.derivatives.proofs.laws.what_fails_fails_at_once.Goals as goal

pub returns : goal.returns
returns c = fails_at_once
