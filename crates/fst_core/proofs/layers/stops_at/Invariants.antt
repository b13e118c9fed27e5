use Rattle.std.proofs.Common.{take}
use Rattle.fst_core.proofs.LayerLemmas.{NoneStops}
use Rattle.fst_core.proofs.layers.stops_at.Given as goal

abbrev pub invariant-loop-end : goal.invariant-loop-end
invariant-loop-end l = NoneStops (take l.end-index l.table.ends.items) l.layer.keys l.output
