use Rattle.std.proofs.Common.{◌≡◌, ◌++◌, drop, map}
use Rattle.php_syntax.specs.Trees.{functions_of_list}
use Rattle.program_files.specs.View.{files_of}
use Rattle.program_rules.specs.Bodies.{with_body}
use Rattle.include_expansion.specs.Within.{bodies_within}
use Rattle.include_expansion.proofs.functions.expand_all.Given as goal

abbrev pub invariant-loop-function : goal.invariant-loop-function
invariant-loop-function l =
    functions_of_list l.copies.items ++ map (with_body (bodies_within (files_of l.files) l.nesting)) (functions_of_list (drop l.function-index l.functions))
    ≡ functions_of_list l.initial.copies.items ++ map (with_body (bodies_within (files_of l.files) l.nesting)) (functions_of_list l.functions)
