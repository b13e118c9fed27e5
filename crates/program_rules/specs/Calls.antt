-- The calls of functions in a program.
use Rattle.std.specs.Prelude.{ℕ, suc, List, [], ◌∷◌, ◌++◌}
use Rattle.php_syntax.specs.Trees.{PlainExpr, call_expr, MaybeExpr, PlainExprs, no_exprs, more_exprs, PlainItems, PlainPath, PlainStmt, PlainStmts, PlainArms, PlainFunction}
use Rattle.program_expressions.specs.Collected.{collected, maybe_collected, part_collected, item_collected, path_collected, collected_of, stmts_collected, arms_collected, bodies_collected}
use Rattle.script_meaning.specs.Programs.{PlainProgram}

-- a call: the name of the function, and how many arguments are handed in
pub record PlainCall : Type 0 where
  pub name_of : List ℕ
  pub arguments : ℕ

-- how many expressions there are
unfoldable pub number_of : PlainExprs → ℕ
number_of no_exprs = 0
number_of (more_exprs e es) = suc (number_of es)

-- the call that an expression itself is, if it is one
unfoldable pub own_call : PlainExpr → List PlainCall
unfolding number_of
own_call (call_expr name args) = record { name_of = name; arguments = number_of args } ∷ []
own_call _ = []

-- the calls in an expression, itself first and then its parts from the left
abbrev pub calls_in : PlainExpr → List PlainCall
calls_in e = collected own_call e

-- the calls in an expression that may be left out
abbrev pub maybe_calls : MaybeExpr → List PlainCall
maybe_calls e = maybe_collected own_call e

-- the calls in expressions
abbrev pub part_calls : PlainExprs → List PlainCall
part_calls es = part_collected own_call es

-- the calls in the items of an array literal
abbrev pub item_calls : PlainItems → List PlainCall
item_calls is = item_collected own_call is

-- the calls in the keys of a target
abbrev pub path_calls : PlainPath → List PlainCall
path_calls ks = path_collected own_call ks

-- the calls in a statement
abbrev pub calls_of : PlainStmt → List PlainCall
calls_of s = collected_of own_call s

-- the calls in statements
abbrev pub statement_calls : PlainStmts → List PlainCall
statement_calls ss = stmts_collected own_call ss

-- the calls in the arms of an `if`
abbrev pub arm_calls : PlainArms → List PlainCall
arm_calls arms = arms_collected own_call arms

-- the calls in the bodies of functions
abbrev pub function_calls : List PlainFunction → List PlainCall
function_calls fs = bodies_collected own_call fs

-- all calls of a program, those outside functions first; a default is a literal and has none
unfoldable pub calls_of_program : PlainProgram → List PlainCall
unfolding collected_of bodies_collected own_call
calls_of_program program = statement_calls program.main_of ++ function_calls program.functions_of
