-- Programs: the statements outside functions, and one table of functions (PHP manual, "User-defined functions").
use Rattle.std.specs.Prelude.{ℕ, neg_ℤ, if◌then◌else◌, List, [], ◌∷◌, Option, Some, None, nat_eq}
use Rattle.std.specs.Cmp.Lexicographic.{pointwise}
use Rattle.php_syntax.specs.Trees.{PlainExpr, flag_expr, int_expr, text_expr, neg_expr, MaybeExpr, no_expr, some_expr, PlainStmts, PlainParam, PlainFunction}
use Rattle.plain_values.specs.Plain.{Plain, null, flag, int, text}
use Rattle.script_meaning.specs.Runs.{Variables}

-- a program: its statements outside functions, with those of included files in their place, and all its functions
pub record PlainProgram : Type 0 where
  pub main_of : PlainStmts
  pub functions_of : List PlainFunction

-- the function of a name, which is in lower case as the names of calls are
unfoldable pub function_named : List PlainFunction → List ℕ → Option PlainFunction
function_named [] name = None
function_named (f ∷ fs) name = if pointwise nat_eq f.name_of name then Some f else function_named fs name

-- the value of a literal that stands as a default: an integer, `-` and an integer, a text, a truth value or null; no other expression may
unfoldable pub literal_value : PlainExpr → Plain
literal_value (flag_expr b) = flag b
literal_value (int_expr z) = int z
literal_value (text_expr t) = text t
literal_value (neg_expr (int_expr z)) = int (neg_ℤ z)
literal_value _ = null

-- the value of a parameter for which no argument was handed in: its default, and null where none is written
unfoldable pub default_value : MaybeExpr → Plain
unfolding literal_value
default_value no_expr = null
default_value (some_expr e) = literal_value e

-- the variables that a call begins with: each parameter with its argument, or with its default where none was handed in
unfoldable pub arguments_of : List PlainParam → List Plain → Variables
unfolding default_value
arguments_of [] args = []
arguments_of (p ∷ ps) [] = (p.name_of, default_value p.default_of) ∷ arguments_of ps []
arguments_of (p ∷ ps) (arg ∷ args) = (p.name_of, arg) ∷ arguments_of ps args
