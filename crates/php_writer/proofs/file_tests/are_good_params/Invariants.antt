use Rattle.std.proofs.Common.{◌≡◌, length}
use Rattle.php_syntax.specs.Trees.{params_of_list}
use Rattle.php_writer.specs.Tested.{params_good}
use Rattle.php_writer.proofs.file_tests.are_good_params.Given as goal

-- what is left to test decides
abbrev pub invariant-loop-param : goal.invariant-loop-param
invariant-loop-param l = params_good (params_of_list l.rest) l.room ≡ params_good (params_of_list l.params) l.room

abbrev pub decreases-loop-param : goal.decreases-loop-param
decreases-loop-param l = length l.rest
