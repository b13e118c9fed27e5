use Rattle.php_syntax.specs.Trees.{plain_expr}
use Rattle.flow_code.specs.Expressions.{code}
use Rattle.flow_lowering.specs.View.{progress}
use Rattle.flow_lowering.specs.ScopeView.{scope_in}
use Rattle.program_lowering.proofs.alone.lower_test.Goals as goal

pub returns : goal.returns
returns c = c.in_ok-head.ensures (progress c.args.points.now) (code (scope_in c.args.scope.now) (plain_expr c.args.test.now)) c.in_ok-slot.ensures
