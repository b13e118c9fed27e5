use Rattle.fst_core.proofs.ChoiceLemmas.{got_copied}
use Rattle.fst_core.proofs.rows.action_at.Goals as goal

pub returns : goal.returns
returns c = got_copied _ _ _ c.get.ensures.lookup
