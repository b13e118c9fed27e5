-- The calls in files, before includes are replaced.
use Rattle.std.specs.Prelude.{List, [], ◌∷◌, ◌++◌}
use Rattle.php_syntax.specs.Trees.{PlainFile}
use Rattle.program_rules.specs.Calls.{PlainCall, statement_calls, function_calls}
use Rattle.program_rules.specs.Programs.{ReadFile}

-- those of a file, outside functions first
unfoldable pub calls_of_file : PlainFile → List PlainCall
calls_of_file tree = statement_calls tree.body_of ++ function_calls tree.functions_of

-- the calls of files in their order
unfoldable pub calls_in_files : List ReadFile → List PlainCall
unfolding calls_of_file
calls_in_files [] = []
calls_in_files (file ∷ files) = calls_of_file file.tree ++ calls_in_files files
