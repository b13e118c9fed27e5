use Rattle.std.proofs.Common.{take}
use Rattle.flow_graph.specs.Heads.{ComesFromAt}
use Rattle.flow_graph.proofs.heads.come_from.Given as goal

abbrev pub invariant-loop-place : goal.invariant-loop-place
invariant-loop-place l = ComesFromAt l.all (take l.place-index l.places) l.before
