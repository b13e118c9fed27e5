use Rattle.std.proofs.Common.{drop}
use Rattle.php_syntax.specs.Trees.{functions_of_list}
use Rattle.program_files.specs.View.{files_of}
use Rattle.program_sizes.specs.Sizes as sizes
use Rattle.program_sizes.proofs.LoopLemmas.{SoFar}
use Rattle.program_sizes.proofs.statements.size_of_functions.Given as goal

abbrev pub invariant-loop-function : goal.invariant-loop-function
invariant-loop-function l =
    SoFar l.size (sizes.of_functions (sizes.size_at (files_of l.files) l.table) (functions_of_list (drop l.function-index l.functions))) (sizes.of_functions (sizes.size_at (files_of l.files) l.table) (functions_of_list l.functions))
