use Rattle.derivatives.proofs.After.{is_derivative}
use Rattle.derivatives.proofs.laws.derivatives_match_what_follows.Goals as goal

pub returns : goal.returns
returns c = is_derivative
