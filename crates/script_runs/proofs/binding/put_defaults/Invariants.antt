use Rattle.std.proofs.Common.{◌≡◌, ◌++◌, [], length}
use Rattle.php_syntax.specs.Trees.{params_of_list}
use Rattle.script_meaning.specs.Programs.{arguments_of}
use Rattle.expr_evaluator.specs.VariablesView.{plain_variables}
use Rattle.script_runs.proofs.binding.put_defaults.Given as goal

abbrev pub invariant-loop-param : goal.invariant-loop-param
invariant-loop-param l = plain_variables l.made.items ++ arguments_of (params_of_list l.rest) [] ≡ plain_variables l.fn.made.items ++ arguments_of (params_of_list l.params) []

abbrev pub decreases-loop-param : goal.decreases-loop-param
decreases-loop-param l = length l.rest
