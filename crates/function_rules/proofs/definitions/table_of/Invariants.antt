use Rattle.std.proofs.Common.{drop}
use Rattle.program_rules.specs.Programs.{functions_in}
use Rattle.program_files.specs.View.{files_of}
use Rattle.function_rules.specs.Table.{HasPut}
use Rattle.function_rules.proofs.definitions.table_of.Given as goal

abbrev pub invariant-loop-place : goal.invariant-loop-place
invariant-loop-place l = HasPut l.table.rows (functions_in (drop l.place (files_of l.files))) (functions_in (files_of l.files))
