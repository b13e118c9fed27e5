use Rattle.std.proofs.Common.{drop}
use Rattle.program_rules.specs.Programs.{functions_in}
use Rattle.program_files.specs.View.{files_of}
use Rattle.program_sizes.specs.Sizes as sizes
use Rattle.program_sizes.proofs.LoopLemmas.{SoFar}
use Rattle.program_sizes.proofs.program.size_of_all.Given as goal

abbrev pub invariant-loop-place : goal.invariant-loop-place
invariant-loop-place l =
    SoFar l.size (sizes.of_functions (sizes.size_at (files_of l.files) l.table) (functions_in (drop l.place (files_of l.files)))) (sizes.of_functions (sizes.size_at (files_of l.files) l.table) (functions_in (files_of l.files)))
