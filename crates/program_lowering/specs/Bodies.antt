-- Bodies of functions as they are lowered, and functions by their parts.
use Rattle.std.specs.Prelude.{ℕ, ◌+◌, Bool, List, ◌++◌}
use Rattle.php_syntax.specs.declared.tree.Param.{Param}
use Rattle.php_syntax.specs.declared.tree.Stmt.{Stmt}
use Rattle.php_syntax.specs.Trees.{PlainFunction, params_of_list, stmts_of}
use Rattle.flow_code.specs.Code.{Block}
use Rattle.flow_code.specs.Flat.{end_points, end_slots}
use Rattle.flow_lowering.specs.Emits.{Progress}

-- the points of a body from a point and a slot on, by whether its end can be reached; `break` and `continue` outside loops lead to its end,
-- and there it returns null
abbrev pub with_end : Bool → Block → ℕ → ℕ → Progress
with_end reached body point free =
    let end = point + body.size in
    record {
      first = point;
      points = body.points (record { stop = end; again = end }) point free
          ++ end_points reached end (free + body.slots);
      slot = free + body.slots + end_slots reached;
    }

-- a function by its parts
abbrev pub function_with : List ℕ → List Param → List Stmt → PlainFunction
function_with name params body = record { name_of = name; params_of = params_of_list params; body_of = stmts_of body }
