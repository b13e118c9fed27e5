use Rattle.std.proofs.Common.{◌≡◌, ◌++◌, drop}
use Rattle.flow_graph.specs.Steps.{steps_seen}
use Rattle.flow_graph.specs.Arrivals.{from_steps}
use Rattle.flow_graph.proofs.arrivals.put_steps.Given as goal

abbrev pub invariant-loop-from : goal.invariant-loop-from
invariant-loop-from l = l.all.items ++ from_steps l.count l.from (steps_seen (drop l.from l.steps)) ≡ l.initial.all.items ++ from_steps l.count 0 (steps_seen l.steps)
