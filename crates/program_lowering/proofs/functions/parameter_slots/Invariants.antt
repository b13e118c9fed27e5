use Rattle.std.proofs.Common.{◌≡◌, ◌++◌, map, drop}
use Rattle.flow_code.specs.View.{slot_number}
use Rattle.flow_lowering.specs.ScopeView.{scope_in}
use Rattle.program_lowering.proofs.FunctionLemmas.{slots_in}
use Rattle.program_lowering.proofs.functions.parameter_slots.Given as goal

-- the slots that are pushed and those of the rest are all
abbrev pub invariant-loop-param : goal.invariant-loop-param
invariant-loop-param l = map slot_number l.slots.items ++ slots_in (scope_in l.scope) (drop l.param-index l.params) ≡ slots_in (scope_in l.scope) l.params
