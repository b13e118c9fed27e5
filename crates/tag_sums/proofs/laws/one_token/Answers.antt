use Rattle.tag_sums.proofs.Units.{one_token}
use Rattle.tag_sums.proofs.laws.one_token.Goals as goal

pub returns : goal.returns
returns c = one_token
