use Rattle.tag_sums.proofs.Units.{sum_append}
use Rattle.tag_sums.proofs.laws.sums_compose.Goals as goal

pub returns : goal.returns
returns c = sum_append
