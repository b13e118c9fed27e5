use Rattle.flow_lowering.proofs.BlockLemmas.{drafts_again}
use Rattle.flow_lowering.proofs.exits.put_continue.Goals as goal

pub returns : goal.returns
returns c = drafts_again c.in_ok-point.ensures c.in_ok-push.ensures.items
