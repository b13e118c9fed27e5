use Rattle.std.proofs.Common.{arith}
use Rattle.content_automata.proofs.SetLemmas.{put_there}
use Rattle.content_automata.proofs.sets.gather.Goals as goal

pub returns : goal.returns
returns c = put_there _ c.args.place.now _ _ _ _ c.index_mut.ensures.value c.take-slot.ensures.value c.in_ok-behind.ensures (grind arith)
