use Rattle.std.proofs.Common.{map, take}
use Rattle.flow_code.specs.View.{slot_number}
use Rattle.extraction.specs.Params.{Puts}
use Rattle.extraction.proofs.params.put_params.Given as goal

-- those so far
abbrev pub invariant-loop-param : goal.invariant-loop-param
invariant-loop-param l = Puts l.initial.keys.keys l.keys.keys l.function (map slot_number (take l.param-index l.params))
