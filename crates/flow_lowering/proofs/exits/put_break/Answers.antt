use Rattle.flow_lowering.proofs.BlockLemmas.{drafts_stop}
use Rattle.flow_lowering.proofs.exits.put_break.Goals as goal

pub returns : goal.returns
returns c = drafts_stop c.in_ok-point.ensures c.in_ok-push.ensures.items
