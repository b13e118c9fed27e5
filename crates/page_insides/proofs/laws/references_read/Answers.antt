use Rattle.page_insides.proofs.References.{references_read}
use Rattle.page_insides.proofs.laws.references_read.Goals as goal

pub returns : goal.returns
returns c = references_read
