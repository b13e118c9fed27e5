-- The variables of a function: the names that stand in its parameters and its body, each once, in the order in which they first stand.
use Rattle.std.specs.Prelude.{ℕ, suc, List, [], ◌∷◌, ◌++◌, Option, if◌then◌else◌, bytes_eq, map}
use Rattle.php_syntax.specs.Trees.{PlainExpr, var_expr, assign_expr, update_expr, step_expr, MaybeExpr, PlainExprs, PlainItems, PlainPath, PlainStmt, PlainStmts, PlainArms, PlainParam, PlainFunction}
use Rattle.program_expressions.specs.Collected.{collected, maybe_collected, part_collected, item_collected, path_collected, key_collected, collected_of, stmts_collected, arms_collected}

-- a variable's name
abbrev pub Name : Type 0
Name = List ℕ

-- the variable that an expression itself reads or writes, if it does; those of the request are none
unfoldable pub own_names : PlainExpr → List Name
own_names (var_expr x) = x ∷ []
own_names (assign_expr x path e) = x ∷ []
own_names (update_expr sign x path e) = x ∷ []
own_names (step_expr x up before) = x ∷ []
own_names _ = []

-- the variables that stand in an expression, from the left, as often as they stand there
abbrev pub names_in : PlainExpr → List Name
names_in e = collected own_names e

-- the variables in an expression that may be left out
abbrev pub maybe_names : MaybeExpr → List Name
maybe_names e = maybe_collected own_names e

-- the variables in expressions
abbrev pub names_in_all : PlainExprs → List Name
names_in_all es = part_collected own_names es

-- the variables in the items of an array literal
abbrev pub item_names : PlainItems → List Name
item_names is = item_collected own_names is

-- the variables in the keys of a target
abbrev pub path_names : PlainPath → List Name
path_names ks = path_collected own_names ks

-- the variable of the key of a `foreach`, if it has one
abbrev pub key_names : Option Name → List Name
key_names key = key_collected own_names key

-- the variables that stand in a statement, in the order of its parts
abbrev pub names_of_stmt : PlainStmt → List Name
names_of_stmt s = collected_of own_names s

-- the variables in statements, in their order
abbrev pub names_of : PlainStmts → List Name
names_of ss = stmts_collected own_names ss

-- the variables in the arms of an `if`: in each those of its condition and then those of its body
abbrev pub names_of_arms : PlainArms → List Name
names_of_arms arms = arms_collected own_names arms

-- the names in their order, with this one left out wherever it stands
unfoldable pub without : Name → List Name → List Name
without x [] = []
without x (y ∷ ys) = if bytes_eq x y then without x ys else y ∷ without x ys

-- each name once, where it first stands
unfoldable pub once : List Name → List Name
unfolding without
once [] = []
once (x ∷ xs) = x ∷ without x (once xs)

-- the variable of a parameter
abbrev pub name_of_param : PlainParam → Name
name_of_param p = p.name_of

-- the names of a function's variables, each once: those of its parameters first, and then those that its body alone names
unfoldable pub variables_of : PlainFunction → List Name
unfolding once
variables_of f = once (map name_of_param f.params_of ++ names_of f.body_of)

-- the place of a name among others; where it is none of them, their number
unfoldable pub place_of : Name → List Name → ℕ
place_of x [] = 0
place_of x (y ∷ ys) = if bytes_eq x y then 0 else suc (place_of x ys)
