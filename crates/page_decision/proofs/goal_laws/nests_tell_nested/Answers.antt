use Rattle.page_decision.proofs.TellingLemmas.{nests_nested}
use Rattle.page_decision.proofs.goal_laws.nests_tell_nested.Goals as goal

pub returns : goal.returns
returns c = nests_nested c.one_token_list.ensures c.whole_is_nested.ensures
