use Rattle.std.proofs.Common.{take}
use Rattle.fst_core.proofs.LayerLemmas.{Tried}
use Rattle.fst_core.proofs.layers.try_moves.Given as goal

abbrev pub invariant-loop-place : goal.invariant-loop-place
invariant-loop-place l =
    Tried l.table l.fn.next.keys l.next.keys (take l.place-index l.places) l.written l.byte l.output
