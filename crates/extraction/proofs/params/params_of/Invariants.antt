use Rattle.std.proofs.Common.{map, take}
use Rattle.flow_code.specs.View.{plain_flow_function}
use Rattle.extraction.specs.Params.{AreParams}
use Rattle.extraction.proofs.params.params_of.Given as goal

-- the functions so far
abbrev pub invariant-loop-place : goal.invariant-loop-place
invariant-loop-place l = AreParams (map plain_flow_function (take l.place l.functions)) l.keys.keys
