use Rattle.flow_lowering.specs.ScopeView.{scope_in}
use Rattle.program_lowering.proofs.FunctionLemmas.{params_further, params_end}
use Rattle.program_lowering.proofs.functions.parameter_slots.Goals as goal

pub loop-param-preserved : goal.loop-param-preserved
loop-param-preserved c =
    params_further c.loop-param.slots.items (scope_in c.args.scope.now) c.args.params.now c.loop-param.param-index c.param-item.result c.loop-param-test.true c.param-item.is c.in_ok-push.ensures.items c.variable-slot.ensures c.loop-param.invariant

pub returns : goal.returns
returns c = params_end c.loop-param.slots.items (scope_in c.args.scope.now) c.args.params.now c.loop-param.param-index c.loop-param-test.false c.loop-param.invariant
