use Rattle.std.proofs.Common.{◌≡◌, length}
use Rattle.plain_values.specs.Paths as paths
use Rattle.php_values.specs.View.{plain_path}
use Rattle.expr_evaluator.specs.Frames.{plain_maybes}
use Rattle.expr_evaluator.proofs.VariableLemmas.{behind_path}
use Rattle.expr_evaluator.proofs.operations.path_of.Given as goal

abbrev pub invariant-loop-subscript : goal.invariant-loop-subscript
invariant-loop-subscript l = paths.path_of (plain_maybes l.subscripts) ≡ behind_path (plain_path l.path.items) (paths.path_of (plain_maybes l.rest))

abbrev pub decreases-loop-subscript : goal.decreases-loop-subscript
decreases-loop-subscript l = length l.rest
