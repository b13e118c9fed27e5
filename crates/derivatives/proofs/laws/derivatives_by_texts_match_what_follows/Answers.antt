use Rattle.derivatives.proofs.Living.{is_derivative_by_all}
use Rattle.derivatives.proofs.laws.derivatives_by_texts_match_what_follows.Goals as goal

pub returns : goal.returns
returns c = is_derivative_by_all
