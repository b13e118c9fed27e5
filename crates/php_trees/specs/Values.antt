-- The values of the parts of a script: what its tokens and the symbols of PHP's grammar stand for, as far as the language has them.
use Rattle.std.specs.Prelude.{ℕ, Bool, List, Option, Some, None, slice_index_or}
use Rattle.std.specs.Option.{option_map}
use Rattle.php_syntax.specs.declared.token.Sign.{Sign}
use Rattle.php_syntax.specs.Tokens.{PlainKind, variable, name, sign}
use Rattle.php_syntax.specs.Trees.{PlainExpr, member_expr, if_stmt, MaybeExpr, no_expr, some_expr, PlainExprs, no_exprs, more_exprs, PlainItems, no_items, more_items, PlainPath, no_keys, more_keys, PlainStmts, no_stmts, more_stmts, PlainArms, PlainParam, PlainFunction, PlainFile}
use Rattle.script_grammar.specs.Expressions.{variable_tree}

-- How an expression is spelled on its outside, where that matters. `digits`, `quoted` and `literal`: an integer, a text, and what else may
-- be a default of a parameter; `bracketed`: a text in brackets. Not in brackets: `chain`, operands of `.`; `choice`, one by `?:`; `loose`,
-- an assignment. `usual`: any other.
pub data Spelling : Type 0 where
  digits : Spelling
  quoted : Spelling
  literal : Spelling
  bracketed : Spelling
  chain : Spelling
  choice : Spelling
  loose : Spelling
  usual : Spelling

-- an argument of a call: an expression, or the constant `ENT_QUOTES`
pub data Argument : Type 0 where
  given : Spelling → PlainExpr → Argument
  quotes_flag : Argument

-- `place`: a variable with keys, some of them left out. `printing`, `including` and `quitting` stand as statements alone. `items`: those of
-- an array, and whether the last is left out. `branch`: arms of an `if` that may go on, and what stands behind its `else`.
pub data Value : Type 0 where
  leaf : PlainKind → Value
  absent : Value
  expr : Spelling → PlainExpr → Value
  place : List ℕ → PlainPath → Value
  quotes : Value
  printing : PlainExpr → Value
  including : List ℕ → Value
  quitting : MaybeExpr → Value
  exprs : PlainExprs → Value
  arguments : List Argument → Value
  items : PlainItems → Bool → Value
  stmts : PlainStmts → Value
  branch : PlainArms → PlainStmts → Value
  params : List PlainParam → Value
  function : PlainFunction → Value
  file : PlainFile → Value

-- expressions, and then others
abbrev pub exprs_and : PlainExprs → PlainExprs → PlainExprs
exprs_and no_exprs fs = fs
exprs_and (more_exprs e es) fs = more_exprs e (exprs_and es fs)

-- the same of items
abbrev pub items_and : PlainItems → PlainItems → PlainItems
items_and no_items js = js
items_and (more_items k e is) js = more_items k e (items_and is js)

-- the same of keys
abbrev pub path_and : PlainPath → PlainPath → PlainPath
path_and no_keys ks = ks
path_and (more_keys j js) ks = more_keys j (path_and js ks)

-- the same of statements
abbrev pub stmts_and : PlainStmts → PlainStmts → PlainStmts
stmts_and no_stmts ts = ts
stmts_and (more_stmts s ss) ts = more_stmts s (stmts_and ss ts)

-- the value at a place, from 0 on
abbrev pub at : ℕ → List Value → Value
at n vs = slice_index_or vs n absent

-- the member by these keys, if none is left out
abbrev pub member_read : PlainExpr → PlainPath → Option PlainExpr
member_read e no_keys = Some e
member_read e (more_keys no_expr ks) = None
member_read e (more_keys (some_expr k) ks) = member_read (member_expr e k) ks

-- the expression that a value is, if it is one
abbrev pub whole_of : Value → Option PlainExpr
whole_of (expr s e) = Some e
whole_of (place x ks) = member_read (variable_tree x) ks
whole_of _ = None

-- the same for an operand, which no assignment is without brackets (own)
abbrev pub operand_of : Value → Option PlainExpr
operand_of (expr loose e) = None
operand_of v = whole_of v

-- the same for what stands before `?`, which no choice is without brackets
abbrev pub subject_of : Value → Option PlainExpr
subject_of (expr choice e) = None
subject_of v = operand_of v

-- the expressions that a value is
abbrev pub exprs_of : Value → Option PlainExprs
exprs_of (exprs es) = Some es
exprs_of _ = None

-- one expression that may be left out, of those that a value is
abbrev pub condition_of : Value → Option MaybeExpr
condition_of (exprs no_exprs) = Some no_expr
condition_of (exprs (more_exprs e no_exprs)) = Some (some_expr e)
condition_of _ = None

-- the argument that a value is
abbrev pub argument_of : Value → Option Argument
argument_of quotes = Some quotes_flag
argument_of (expr s e) = Some (given s e)
argument_of (place x ks) = option_map (given usual) (member_read (variable_tree x) ks)
argument_of _ = None

-- the arguments that a value is
abbrev pub arguments_of : Value → Option (List Argument)
arguments_of (arguments gs) = Some gs
arguments_of _ = None

-- the statements that a value is
abbrev pub stmts_of : Value → Option PlainStmts
stmts_of (stmts ss) = Some ss
stmts_of (branch arms others) = Some (more_stmts (if_stmt arms others) no_stmts)
stmts_of _ = None

-- arms that may go on, and what stands behind `else`
abbrev pub branch_of : Value → Option (PlainArms × PlainStmts)
branch_of (branch arms others) = Some (arms, others)
branch_of _ = None

-- the parameters that a value is
abbrev pub params_of : Value → Option (List PlainParam)
params_of (params ps) = Some ps
params_of _ = None

-- the file that a value is
abbrev pub file_of : Value → Option PlainFile
file_of (file f) = Some f
file_of _ = None

-- the variable that a value is, without keys
abbrev pub variable_of : Value → Option (List ℕ)
variable_of (place x no_keys) = Some x
variable_of (leaf (variable x)) = Some x
variable_of _ = None

-- the name that a token is
abbrev pub name_of_token : Value → Option (List ℕ)
name_of_token (leaf (name w)) = Some w
name_of_token _ = None

-- the sign that a token is
abbrev pub sign_of : Value → Option Sign
sign_of (leaf (sign s)) = Some s
sign_of _ = None
