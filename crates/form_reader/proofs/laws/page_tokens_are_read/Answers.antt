use Rattle.form_reader.proofs.Tokens.{page_tokens_are_read}
use Rattle.form_reader.proofs.laws.page_tokens_are_read.Goals as goal

pub returns : goal.returns
returns c = page_tokens_are_read
