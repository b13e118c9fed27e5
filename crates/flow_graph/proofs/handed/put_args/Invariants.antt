use Rattle.std.proofs.Common.{◌≡◌, ◌++◌, map, drop}
use Rattle.flow_code.specs.View.{slot_number}
use Rattle.flow_graph.specs.Handed.{of_call}
use Rattle.flow_graph.proofs.handed.put_args.Given as goal

-- what is left to put stands behind what is put
abbrev pub invariant-loop-param : goal.invariant-loop-param
invariant-loop-param l =
    l.all.items ++ of_call l.point l.function (map slot_number (drop l.param-index l.params)) (map slot_number l.others)
    ≡ l.initial.all.items ++ of_call l.point l.function (map slot_number l.params) (map slot_number l.args)
