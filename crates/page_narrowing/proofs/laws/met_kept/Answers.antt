use Rattle.page_narrowing.proofs.Narrow.{met_kept}
use Rattle.page_narrowing.proofs.laws.met_kept.Goals as goal

pub returns : goal.returns
returns c = met_kept
