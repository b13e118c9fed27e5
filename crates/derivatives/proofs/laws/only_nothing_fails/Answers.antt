use Rattle.derivatives.proofs.Living.{only_nothing_fails}
use Rattle.derivatives.proofs.laws.only_nothing_fails.Goals as goal

pub returns : goal.returns
returns c = only_nothing_fails
