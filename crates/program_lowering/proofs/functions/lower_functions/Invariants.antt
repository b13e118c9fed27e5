use Rattle.std.proofs.Common.{◌≡◌, ◌≤◌, ◌++◌, [], ◌∷◌, map, drop}
use Rattle.php_syntax.specs.Trees.{functions_of_list}
use Rattle.flow_code.specs.Flat.{flat_functions}
use Rattle.flow_code.specs.View.{plain_flow_function}
use Rattle.flow_lowering.specs.Emits.{START_LIMIT}
use Rattle.program_lowering.specs.Bodies.{function_with}
use Rattle.program_lowering.proofs.functions.lower_functions.Given as goal

-- the functions that are made and those that are left are all, and the next one begins within the limit
abbrev pub invariant-loop-function : goal.invariant-loop-function
invariant-loop-function l =
    (map plain_flow_function l.made.items ++ flat_functions (functions_of_list l.functions) (functions_of_list (drop l.function-index l.functions)) l.point l.slot
    ≡ flat_functions (functions_of_list l.functions) (function_with [] [] l.main ∷ functions_of_list l.functions) 0 0)
    × ((l.point ≤ START_LIMIT) × (l.slot ≤ START_LIMIT))
