use Rattle.program_lowering.proofs.AddedLemmas.{params_end, params_further}
use Rattle.program_lowering.proofs.function_variables.in_params.Goals as goal

pub loop-param-preserved : goal.loop-param-preserved
loop-param-preserved c = params_further c.loop-param.names.known.keys c.args.params.now c.loop-param.param-index c.param-item.result c.loop-param-test.true c.param-item.is c.in_ok-note.ensures c.loop-param.invariant

pub returns : goal.returns
returns c = params_end c.args.params.now c.loop-param.param-index c.loop-param-test.false c.loop-param.invariant
