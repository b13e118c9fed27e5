use Rattle.std.proofs.Common.{◌≡◌, ◌++◌}
use Rattle.std.specs.Vec.Iter.{into_iter_items}
use Rattle.php_syntax.specs.Trees.{params_of_list}
use Rattle.php_values.specs.View.{plain_list}
use Rattle.script_meaning.specs.Programs.{arguments_of}
use Rattle.expr_evaluator.specs.VariablesView.{plain_variables}
use Rattle.script_runs.proofs.binding.variables_of.Given as goal

abbrev pub invariant-loop-arg : goal.invariant-loop-arg
invariant-loop-arg l = plain_variables l.made.items ++ arguments_of (params_of_list l.rest) (plain_list (into_iter_items l.arg-iterator)) ≡ arguments_of (params_of_list l.params) (plain_list l.fn.args.items)
