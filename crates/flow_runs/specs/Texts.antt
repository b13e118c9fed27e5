-- The texts that stand in a program.
use Rattle.std.specs.Prelude.{◌≤◌, ℕ, List, [], ◌∷◌, ◌++◌, length}
use Rattle.std.specs.List.{Contains}
use Rattle.text_base.specs.declared.limits.TheConstants.{TEXT_LIMIT}
use Rattle.php_syntax.specs.Trees.{PlainExpr, text_expr, MaybeExpr, PlainExprs, PlainItems, PlainPath, PlainStmt, PlainStmts, PlainArms, PlainParam, PlainFunction}
use Rattle.program_expressions.specs.Collected.{collected, maybe_collected, part_collected, item_collected, path_collected, collected_of, stmts_collected, arms_collected, defaults_collected, functions_collected}
use Rattle.script_meaning.specs.Programs.{PlainProgram}

-- the text literal that an expression itself is, if it is one
unfoldable pub own_text : PlainExpr → List (List ℕ)
own_text (text_expr t) = t ∷ []
own_text _ = []

-- the text literals in an expression
abbrev pub texts_in : PlainExpr → List (List ℕ)
texts_in e = collected own_text e

-- the text literals in an expression that may be left out
abbrev pub maybe_texts : MaybeExpr → List (List ℕ)
maybe_texts e = maybe_collected own_text e

-- the text literals in expressions
abbrev pub part_texts : PlainExprs → List (List ℕ)
part_texts es = part_collected own_text es

-- the text literals in the items of an array literal
abbrev pub item_texts : PlainItems → List (List ℕ)
item_texts is = item_collected own_text is

-- the text literals in the keys of a target
abbrev pub path_texts : PlainPath → List (List ℕ)
path_texts ks = path_collected own_text ks

-- the text literals in a statement; the bytes outside PHP are none
abbrev pub texts_of : PlainStmt → List (List ℕ)
texts_of s = collected_of own_text s

-- the text literals in statements
abbrev pub statement_texts : PlainStmts → List (List ℕ)
statement_texts ss = stmts_collected own_text ss

-- the text literals in the arms of an `if`
abbrev pub arm_texts : PlainArms → List (List ℕ)
arm_texts arms = arms_collected own_text arms

-- the text literals in the defaults of parameters
abbrev pub param_texts : List PlainParam → List (List ℕ)
param_texts ps = defaults_collected own_text ps

-- the text literals in functions: for each those of its defaults, and then those of its body
abbrev pub function_texts : List PlainFunction → List (List ℕ)
function_texts fs = functions_collected own_text fs

-- each text literal of a program is a text of a run
abbrev pub TextsFit : PlainProgram → Type 0
TextsFit program = (t : List ℕ) → Contains (statement_texts program.main_of ++ function_texts program.functions_of) t
    → length t ≤ TEXT_LIMIT
