use Rattle.page_step_laws.proofs.Tokens.{tokens_by_reading}
use Rattle.page_step_laws.proofs.laws.tokens_by_reading.Goals as goal

pub returns : goal.returns
returns c = tokens_by_reading
