use Rattle.std.proofs.Common.{◌≡◌, length}
use Rattle.php_syntax.specs.Trees.{functions_of_list}
use Rattle.script_meaning.specs.Programs.{function_named}
use Rattle.expr_evaluator.proofs.functions.Functions.named.Given as goal

abbrev pub invariant-loop-first : goal.invariant-loop-first
invariant-loop-first l = function_named (functions_of_list l.self.all.now) l.name ≡ function_named (functions_of_list l.rest) l.name

abbrev pub decreases-loop-first : goal.decreases-loop-first
decreases-loop-first l = length l.rest
