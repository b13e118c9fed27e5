use Rattle.page_decision.proofs.TellingLemmas.{sums_valid}
use Rattle.page_decision.proofs.goal_laws.sums_tell_valid.Goals as goal

pub returns : goal.returns
returns c = sums_valid c.valid_by_tokens.ensures c.whole_is_tree.ensures
