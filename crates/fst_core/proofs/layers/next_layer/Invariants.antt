use Rattle.std.proofs.Common.{take}
use Rattle.fst_core.proofs.LayerLemmas.{Followed}
use Rattle.fst_core.proofs.layers.next_layer.Given as goal

abbrev pub invariant-loop-reached : goal.invariant-loop-reached
invariant-loop-reached l = Followed l.table (take l.reached-index l.layer) l.next.keys l.byte l.output
