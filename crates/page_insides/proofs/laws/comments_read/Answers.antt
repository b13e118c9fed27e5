use Rattle.page_insides.proofs.Leaves.{comments_read}
use Rattle.page_insides.proofs.laws.comments_read.Goals as goal

pub returns : goal.returns
returns c = comments_read
