use Rattle.broken_readers.proofs.Finding.{not_good}
use Rattle.broken_readers.proofs.laws.broken_is_not_good.Goals as goal

pub returns : goal.returns
returns c = not_good c.broken_have_bad.ensures c.valid_by_tokens.ensures c.page_tokens_are_read.ensures c.whole_is_nested.ensures
