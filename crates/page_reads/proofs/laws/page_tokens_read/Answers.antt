use Rattle.page_reads.proofs.All.{page_tokens_read}
use Rattle.page_reads.proofs.laws.page_tokens_read.Goals as goal

pub returns : goal.returns
returns c = page_tokens_read
