use Rattle.std.proofs.Common.{◌≡◌, ◌++◌, drop}
use Rattle.php_syntax.specs.Trees.{functions_of_list}
use Rattle.program_rules.specs.Includes.{includes_in_functions}
use Rattle.program_files.proofs.includes.find_in_functions.Given as goal

abbrev pub invariant-loop-function : goal.invariant-loop-function
invariant-loop-function l = l.found.items ++ includes_in_functions (functions_of_list (drop l.function-index l.functions)) ≡ l.initial.found.items ++ includes_in_functions (functions_of_list l.functions)
