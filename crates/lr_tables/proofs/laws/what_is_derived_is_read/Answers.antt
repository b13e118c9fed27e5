use Rattle.lr_tables.proofs.Complete.{is_complete}
use Rattle.lr_tables.proofs.laws.what_is_derived_is_read.Goals as goal

pub returns : goal.returns
returns c = is_complete
