use Rattle.derivatives.proofs.Ends.{empty_matched, ends_empty}
use Rattle.derivatives.proofs.laws.what_may_end_matches_the_empty_text.Goals as goal

pub returns : goal.returns
returns c = λ e. (empty_matched e, ends_empty e)
