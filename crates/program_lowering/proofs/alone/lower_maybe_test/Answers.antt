use Rattle.flow_code.specs.Statements.{test_code}
use Rattle.flow_lowering.specs.View.{progress}
use Rattle.flow_lowering.specs.ScopeView.{scope_in}
use Rattle.flow_lowering.proofs.LoopLemmas.{opens_always}
use Rattle.program_lowering.proofs.RowBlocks.{by_test}
use Rattle.program_lowering.proofs.alone.lower_maybe_test.Goals as goal

pub returns-in_ok-head-in-Some : goal.returns-in_ok-head-in-Some
unfolding test_code
returns-in_ok-head-in-Some c = by_test (scope_in c.args.scope.now) c.in-Some.is c.in_ok-head-in-Some.ensures

pub returns-in-None : goal.returns-in-None
unfolding test_code
returns-in-None c = by_test (scope_in c.args.scope.now) c.in-None.is (opens_always (progress c.args.points.now))
