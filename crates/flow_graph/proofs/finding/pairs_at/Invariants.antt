use Rattle.std.proofs.Common.{◌≡◌, ◌++◌, drop, flat_map}
use Rattle.flow_graph.specs.Found.{pair_at}
use Rattle.flow_graph.proofs.finding.pairs_at.Given as goal

-- what is left to put stands behind what is put
abbrev pub invariant-loop-place : goal.invariant-loop-place
invariant-loop-place l = l.pairs.items ++ flat_map (pair_at l.all) (drop l.place-index l.places) ≡ flat_map (pair_at l.all) l.places
