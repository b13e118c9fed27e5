use Rattle.page_insides.proofs.Leaves.{sections_read}
use Rattle.page_insides.proofs.laws.sections_read.Goals as goal

pub returns : goal.returns
returns c = sections_read
