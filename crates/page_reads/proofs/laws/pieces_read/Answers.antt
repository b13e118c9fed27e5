use Rattle.page_reads.proofs.All.{pieces_read}
use Rattle.page_reads.proofs.laws.pieces_read.Goals as goal

pub returns : goal.returns
returns c = pieces_read
