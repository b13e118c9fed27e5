-- The plain form of what the code has made.
use Rattle.std.specs.Prelude.{ℕ, List, map, Option, Some, None}
use Rattle.php_syntax.specs.declared.tree.Stmt.{Stmt}
use Rattle.php_syntax.specs.declared.tree.Expr.{Expr}
use Rattle.php_syntax.specs.Trees.{MaybeExpr, PlainExprs, PlainStmts, PlainArms, PlainParam, PlainFunction, maybe_of, exprs_of, plain_stmt, stmts_of, arms_of, params_of_list, functions_of_list}
use Rattle.stmt_machine.specs.Made.{PlainBody, Node, Made}
use Rattle.expr_builder.specs.Views.{plain_values}
use Rattle.stmt_builder.specs.declared.rows.Exprs.{Exprs}
use Rattle.stmt_builder.specs.declared.body.Row.{Row}
use Rattle.stmt_builder.specs.declared.body.Body.{Body}
use Rattle.stmt_builder.specs.declared.body.Arms.{Arms}
use Rattle.stmt_builder.specs.declared.functions.Header.{Header}
use Rattle.stmt_builder.specs.declared.functions.Functions.{Functions}
use Rattle.stmt_builder.specs.declared.maker.Maker.{Maker}

-- the plain form of expressions in a row with the height of the highest, if all are kept
abbrev pub gathered : Option Exprs → Option (PlainExprs × ℕ)
gathered None = None
gathered (Some row) = Some (exprs_of row.exprs.items, row.height)

-- the plain form of statements in a row with the height of the highest, if all are kept
abbrev pub row_of : Option Row → Option (PlainStmts × ℕ)
row_of None = None
row_of (Some row) = Some (stmts_of row.stmts.items, row.height)

-- the plain form of a body that is being read
abbrev pub plain_body : Body → PlainBody
plain_body b = record { in_loop = b.in_loop; in_function = b.in_function; row = row_of b.row }

-- a statement and the height of its highest part
abbrev pub node_of : Option (Stmt × ℕ) → Node
node_of None = None
node_of (Some node) = Some (plain_stmt node.0, node.1)

-- the plain form of rows of statements, in their order
abbrev pub rows_of : List (Option Row) → List (Option (PlainStmts × ℕ))
rows_of rows = map row_of rows

-- the plain form of the arms of an `if` with the height of the highest part, if all are kept
abbrev pub gathered_arms : Option Arms → Option (PlainArms × ℕ)
gathered_arms None = None
gathered_arms (Some arms) = Some (arms_of arms.arms.items, arms.height)

-- the plain form of a function's name and of its parameters so far, if a function is being read
abbrev pub header_of : Option Header → Option (List ℕ × List PlainParam)
header_of None = None
header_of (Some header) = Some (header.name, params_of_list header.params)

-- the plain form of the functions so far with the height of the highest, if all are kept
abbrev pub kept_functions : Option Functions → Option (List PlainFunction × ℕ)
kept_functions None = None
kept_functions (Some functions) = Some (functions_of_list functions.functions.items, functions.height)

-- the condition of a `for`, with its height
abbrev pub maybe_expr : Option (Option Expr × ℕ) → Option (MaybeExpr × ℕ)
maybe_expr None = None
maybe_expr (Some condition) = Some (maybe_of condition.0, condition.1)

-- a parameter and its default
abbrev pub with_default : List ℕ → MaybeExpr → PlainParam
with_default x d = record { name_of = x; default_of = d }

-- all that the code has made
abbrev pub made_of : Maker → Made
made_of m = record {
  values = plain_values m.values;
  bodies = map plain_body m.bodies;
  header = header_of m.header;
  functions = kept_functions m.functions;
}
