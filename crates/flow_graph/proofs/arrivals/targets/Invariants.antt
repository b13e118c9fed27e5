use Rattle.std.proofs.Common.{◌≡◌, ◌++◌, drop, map}
use Rattle.flow_graph.specs.Arrivals.{target}
use Rattle.flow_graph.proofs.arrivals.targets.Given as goal

abbrev pub invariant-loop-arrival : goal.invariant-loop-arrival
invariant-loop-arrival l = l.points.items ++ map target (drop l.arrival-index l.all) ≡ map target l.all
