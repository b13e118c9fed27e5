use Rattle.flow_code.specs.Expressions.{function_in}
use Rattle.flow_lowering.specs.ScopeView.{scope_in}
use Rattle.expression_lowering.proofs.CallLemmas.{own_call}
use Rattle.expression_lowering.proofs.calls.finish_own.Goals as goal

pub returns-in_ok-slot-in-Some : goal.returns-in_ok-slot-in-Some
returns-in_ok-slot-in-Some c start args e =
    own_call (function_in 1 (scope_in c.args.scope.now).functions c.args.name.now) c.in-Some.found.0 c.in-Some.found.1.now c.as_slice-params.result.now c.args.count args c.in-Some.ensures c.as_slice-params.ensures.value
    (c.in_ok-slot-in-Some.ensures start args e)
