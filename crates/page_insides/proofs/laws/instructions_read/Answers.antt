use Rattle.page_insides.proofs.Leaves.{instructions_read}
use Rattle.page_insides.proofs.laws.instructions_read.Goals as goal

pub returns : goal.returns
returns c = instructions_read
