use Rattle.page_narrowing.proofs.Narrow.{narrow_tokens_read}
use Rattle.page_narrowing.proofs.laws.narrow_tokens_read.Goals as goal

pub returns : goal.returns
returns c = narrow_tokens_read
