use Rattle.page_insides.proofs.Leaves.{doctypes_read}
use Rattle.page_insides.proofs.laws.doctypes_read.Goals as goal

pub returns : goal.returns
returns c = doctypes_read
