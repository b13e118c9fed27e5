use Rattle.page_model.proofs.ByTokens as by
use Rattle.page_model.proofs.laws.valid_by_tokens.Goals as goal

pub returns : goal.returns
returns c = by.valid_by_tokens
