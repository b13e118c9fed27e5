use Rattle.page_narrowing.proofs.Narrow.{beginnings_told}
use Rattle.page_narrowing.proofs.laws.beginnings_told.Goals as goal

pub returns : goal.returns
returns c = beginnings_told
