use Rattle.std.proofs.Common.{drop}
use Rattle.php_syntax.specs.Trees.{params_of_list}
use Rattle.program_sizes.specs.Sizes as sizes
use Rattle.program_sizes.proofs.LoopLemmas.{SoFar}
use Rattle.program_sizes.proofs.statements.size_of_params.Given as goal

abbrev pub invariant-loop-param : goal.invariant-loop-param
invariant-loop-param l = SoFar l.size (sizes.of_params (params_of_list (drop l.param-index l.params))) (sizes.of_params (params_of_list l.params))
