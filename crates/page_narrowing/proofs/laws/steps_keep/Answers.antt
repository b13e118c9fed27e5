use Rattle.page_narrowing.proofs.Narrow.{steps_keep}
use Rattle.page_narrowing.proofs.laws.steps_keep.Goals as goal

pub returns : goal.returns
returns c = steps_keep
