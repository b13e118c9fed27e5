use Rattle.std.proofs.Common.{◌≡◌, drop}
use Rattle.php_syntax.specs.Trees.{functions_of_list}
use Rattle.php_writer.specs.Tested.{functions_good}
use Rattle.php_writer.proofs.file_tests.are_good_functions.Given as goal

-- what is left to test decides
abbrev pub invariant-loop-function : goal.invariant-loop-function
invariant-loop-function l = functions_good (functions_of_list (drop l.function-index l.functions)) l.room ≡ functions_good (functions_of_list l.functions) l.room
