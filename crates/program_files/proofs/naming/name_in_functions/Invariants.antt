use Rattle.std.proofs.Common.{◌≡◌, length, map}
use Rattle.php_syntax.specs.Trees.{functions_of_list}
use Rattle.program_rules.specs.Bodies.{with_body}
use Rattle.program_files.specs.Steps.{placed_include}
use Rattle.program_files.proofs.Visits.{visited_functions}
use Rattle.program_files.proofs.naming.name_in_functions.Given as goal

abbrev pub invariant-loop-place : goal.invariant-loop-place
invariant-loop-place l =
    (visited_functions (placed_include l.naming.names.now.keys l.naming.main.now l.naming.file.now) l.place l.functions.items ≡ map (with_body (placed_include l.naming.names.now.keys l.naming.main.now l.naming.file.now)) (functions_of_list l.initial.functions.items))
    × (length l.functions.items ≡ length l.initial.functions.items)
