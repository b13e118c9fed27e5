use Rattle.std.proofs.Common.{◌≡◌, ◌++◌, drop, map}
use Rattle.php_syntax.specs.Trees.{functions_of_list}
use Rattle.program_rules.specs.Programs.{functions_in}
use Rattle.program_files.specs.View.{files_of}
use Rattle.program_rules.specs.Bodies.{with_body}
use Rattle.include_expansion.specs.Within.{bodies_within}
use Rattle.include_expansion.proofs.functions.expand_functions.Given as goal

abbrev pub invariant-loop-place : goal.invariant-loop-place
invariant-loop-place l =
    functions_of_list l.copies.items ++ map (with_body (bodies_within (files_of l.files) l.nesting)) (functions_in (drop l.place (files_of l.files)))
    ≡ map (with_body (bodies_within (files_of l.files) l.nesting)) (functions_in (files_of l.files))
