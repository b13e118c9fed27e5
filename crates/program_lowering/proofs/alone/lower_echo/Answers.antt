use Rattle.program_lowering.proofs.RowBlocks.{echo_further, echo_end}
use Rattle.flow_lowering.specs.ScopeView.{scope_in}
use Rattle.program_lowering.proofs.alone.lower_echo.Goals as goal

pub loop-expr-preserved : goal.loop-expr-preserved
loop-expr-preserved c = echo_further (scope_in c.args.scope.now) c.args.exprs.now c.loop-expr.expr-index c.expr-item.result c.loop-expr-test.true c.expr-item.is c.in_ok-lower_printed.ensures c.loop-expr.invariant

pub returns : goal.returns
returns c = echo_end (scope_in c.args.scope.now) c.args.exprs.now c.loop-expr.expr-index c.loop-expr-test.false c.loop-expr.invariant
