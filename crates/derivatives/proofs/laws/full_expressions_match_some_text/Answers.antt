use Rattle.derivatives.proofs.Living.{some_text}
use Rattle.derivatives.proofs.laws.full_expressions_match_some_text.Goals as goal

pub returns : goal.returns
returns c = some_text
