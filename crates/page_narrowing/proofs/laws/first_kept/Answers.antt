use Rattle.page_narrowing.proofs.Narrow.{first_kept}
use Rattle.page_narrowing.proofs.laws.first_kept.Goals as goal

pub returns : goal.returns
returns c = first_kept
