use Rattle.std.proofs.Common.{◌≡◌, ◌++◌, drop, map}
use Rattle.flow_code.specs.View.{plain_flow_function}
use Rattle.flow_graph.specs.Arrivals.{from_functions}
use Rattle.flow_graph.proofs.arrivals.put_functions.Given as goal

abbrev pub invariant-loop-number : goal.invariant-loop-number
invariant-loop-number l =
    l.all.items ++ from_functions l.count l.number (map plain_flow_function (drop l.number l.functions)) ≡ l.initial.all.items ++ from_functions l.count 0 (map plain_flow_function l.functions)
