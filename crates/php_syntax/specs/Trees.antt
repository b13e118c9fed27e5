-- The plain form of a tree: lists of its own for vectors, no boxes, and nothing of where a value lies in memory.
use Rattle.std.specs.Prelude.{ℕ, ℤ, Bool, List, [], ◌∷◌, Option, Some, None}
use Rattle.std.specs.declared.boxed.Box.{Box}
use Rattle.std.specs.declared.vec.Vec.{Vec}
use Rattle.std.specs.declared.alloc.Global.{Global}
use Rattle.php_syntax.specs.declared.tree.ArithSign.{ArithSign}
use Rattle.php_syntax.specs.declared.tree.CompareSign.{CompareSign}
use Rattle.php_syntax.specs.declared.tree.UpdateSign.{UpdateSign}
use Rattle.php_syntax.specs.declared.tree.SuperName.{SuperName}
use Rattle.php_syntax.specs.declared.tree.Expr.{Expr, Null, Flag, Int, Text, Var, Super, Member', ArrayOf', Join', Neg', Not', Arith', Compare', And', Or', Coalesce', Choice', Isset', Empty', Assign', Update', Step, Call', Held-Expr-ArrayOf-0-1, Expr-ArrayOf-0-1-None', Expr-ArrayOf-0-1-Some', Row_of-Expr-ArrayOf-0-3, end_of-Expr-ArrayOf-0-3, more_of-Expr-ArrayOf-0-3, Row_of-Expr, end_of-Expr, more_of-Expr, Held-Expr-Choice-1, Expr-Choice-1-None', Expr-Choice-1-Some', Row_of-Target-path-1, end_of-Target-path-1, more_of-Target-path-1}
use Rattle.php_syntax.specs.declared.tree.Target.{Target, out-Target}
use Rattle.php_syntax.specs.declared.tree.Stmt.{Stmt, Inline, Echo, Run, If', While', DoWhile', For', Each', Break, Continue, Return, Include, Quit, Row_of-Stmt, end_of-Stmt, more_of-Stmt, Row_of-Stmt-If-0-3, end_of-Stmt-If-0-3, more_of-Stmt-If-0-3}
use Rattle.php_syntax.specs.declared.tree.Param.{Param}
use Rattle.php_syntax.specs.declared.tree.FunctionDef.{FunctionDef}
use Rattle.php_syntax.specs.declared.tree.FileTree.{FileTree}

mutual
  -- an expression
  pub data PlainExpr : Type 0 where
    null_expr : PlainExpr
    flag_expr : Bool → PlainExpr
    int_expr : ℤ → PlainExpr
    text_expr : List ℕ → PlainExpr
    var_expr : List ℕ → PlainExpr
    super_expr : SuperName → PlainExpr
    member_expr : PlainExpr → PlainExpr → PlainExpr
    array_expr : PlainItems → PlainExpr
    join_expr : PlainExprs → PlainExpr
    neg_expr : PlainExpr → PlainExpr
    not_expr : PlainExpr → PlainExpr
    arith_expr : ArithSign → PlainExpr → PlainExpr → PlainExpr
    compare_expr : CompareSign → PlainExpr → PlainExpr → PlainExpr
    and_expr : PlainExpr → PlainExpr → PlainExpr
    or_expr : PlainExpr → PlainExpr → PlainExpr
    coalesce_expr : PlainExpr → PlainExpr → PlainExpr
    choice_expr : PlainExpr → MaybeExpr → PlainExpr → PlainExpr
    isset_expr : PlainExprs → PlainExpr
    empty_expr : PlainExpr → PlainExpr
    -- a variable's name, the path of keys, and the value
    assign_expr : List ℕ → PlainPath → PlainExpr → PlainExpr
    update_expr : UpdateSign → List ℕ → PlainPath → PlainExpr → PlainExpr
    -- the variable, whether it goes up, and whether the sign stands before it
    step_expr : List ℕ → Bool → Bool → PlainExpr
    call_expr : List ℕ → PlainExprs → PlainExpr

  -- an expression that may be left out
  pub data MaybeExpr : Type 0 where
    no_expr : MaybeExpr
    some_expr : PlainExpr → MaybeExpr

  -- expressions in a row
  pub data PlainExprs : Type 0 where
    no_exprs : PlainExprs
    more_exprs : PlainExpr → PlainExprs → PlainExprs

  -- the items of an array literal: for each its key, if one is written, and its value
  pub data PlainItems : Type 0 where
    no_items : PlainItems
    more_items : MaybeExpr → PlainExpr → PlainItems → PlainItems

  -- the keys of a target, the outermost first, where `[]` is no key
  pub data PlainPath : Type 0 where
    no_keys : PlainPath
    more_keys : MaybeExpr → PlainPath → PlainPath

mutual
  -- a statement
  pub data PlainStmt : Type 0 where
    inline_stmt : List ℕ → PlainStmt
    echo_stmt : PlainExprs → PlainStmt
    run_stmt : PlainExpr → PlainStmt
    if_stmt : PlainArms → PlainStmts → PlainStmt
    while_stmt : PlainExpr → PlainStmts → PlainStmt
    do_while_stmt : PlainStmts → PlainExpr → PlainStmt
    for_stmt : PlainExprs → MaybeExpr → PlainExprs → PlainStmts → PlainStmt
    -- the array, the variable of the key, the variable of the value, and the body
    each_stmt : PlainExpr → Option (List ℕ) → List ℕ → PlainStmts → PlainStmt
    break_stmt : PlainStmt
    continue_stmt : PlainStmt
    return_stmt : MaybeExpr → PlainStmt
    include_stmt : List ℕ → PlainStmt
    -- the end of the run, with what is printed before it, if anything is
    quit_stmt : MaybeExpr → PlainStmt

  -- statements in a row
  pub data PlainStmts : Type 0 where
    no_stmts : PlainStmts
    more_stmts : PlainStmt → PlainStmts → PlainStmts

  -- the arms of an `if`, each with its condition
  pub data PlainArms : Type 0 where
    no_arms : PlainArms
    more_arms : PlainExpr → PlainStmts → PlainArms → PlainArms

-- a parameter and its default, if one is written
pub record PlainParam : Type 0 where
  pub name_of : List ℕ
  pub default_of : MaybeExpr

-- a function: its name, its parameters in order, and its body
pub record PlainFunction : Type 0 where
  pub name_of : List ℕ
  pub params_of : List PlainParam
  pub body_of : PlainStmts

-- the tree of a file: its statements outside functions, and its functions
pub record PlainFile : Type 0 where
  pub body_of : PlainStmts
  pub functions_of : List PlainFunction

unfoldable mutual
  -- the plain form of an expression
  pub plain_expr : Expr → PlainExpr
  plain_expr Null = null_expr
  plain_expr (Flag b) = flag_expr b
  plain_expr (Int z) = int_expr z
  plain_expr (Text t) = text_expr t
  plain_expr (Var t) = var_expr t
  plain_expr (Super s) = super_expr s
  plain_expr (Member' p a q b) = member_expr (plain_expr a) (plain_expr b)
  plain_expr (ArrayOf' shape items) = array_expr (plain_items items)
  plain_expr (Join' shape parts) = join_expr (plain_row parts)
  plain_expr (Neg' p a) = neg_expr (plain_expr a)
  plain_expr (Not' p a) = not_expr (plain_expr a)
  plain_expr (Arith' s p a q b) = arith_expr s (plain_expr a) (plain_expr b)
  plain_expr (Compare' s p a q b) = compare_expr s (plain_expr a) (plain_expr b)
  plain_expr (And' p a q b) = and_expr (plain_expr a) (plain_expr b)
  plain_expr (Or' p a q b) = or_expr (plain_expr a) (plain_expr b)
  plain_expr (Coalesce' p a q b) = coalesce_expr (plain_expr a) (plain_expr b)
  plain_expr (Choice' p a middle q b) = choice_expr (plain_expr a) (plain_boxed middle) (plain_expr b)
  plain_expr (Isset' shape parts) = isset_expr (plain_row parts)
  plain_expr (Empty' p a) = empty_expr (plain_expr a)
  plain_expr (Assign' x shape path p value) = assign_expr x (plain_keys path) (plain_expr value)
  plain_expr (Update' s x shape path p value) = update_expr s x (plain_keys path) (plain_expr value)
  plain_expr (Step x up before) = step_expr x up before
  plain_expr (Call' f shape args) = call_expr f (plain_row args)

  -- the plain form of an expression that may be left out, in an array literal or a path
  pub plain_held : Held-Expr-ArrayOf-0-1 → MaybeExpr
  plain_held Expr-ArrayOf-0-1-None' = no_expr
  plain_held (Expr-ArrayOf-0-1-Some' e) = some_expr (plain_expr e)

  -- the plain form of the middle of a choice, which may be left out
  pub plain_boxed : Held-Expr-Choice-1 → MaybeExpr
  plain_boxed Expr-Choice-1-None' = no_expr
  plain_boxed (Expr-Choice-1-Some' p e) = some_expr (plain_expr e)

  -- the plain form of the items of an array literal, in their order
  pub plain_items : {n : _} → Row_of-Expr-ArrayOf-0-3 n → PlainItems
  plain_items end_of-Expr-ArrayOf-0-3 = no_items
  plain_items (more_of-Expr-ArrayOf-0-3 key value rest) = more_items (plain_held key) (plain_expr value) (plain_items rest)

  -- the plain form of expressions, in their order
  pub plain_row : {n : _} → Row_of-Expr n → PlainExprs
  plain_row end_of-Expr = no_exprs
  plain_row (more_of-Expr e rest) = more_exprs (plain_expr e) (plain_row rest)

  -- the plain form of the keys of a target, in their order
  pub plain_keys : {n : _} → Row_of-Target-path-1 n → PlainPath
  plain_keys end_of-Target-path-1 = no_keys
  plain_keys (more_of-Target-path-1 key rest) = more_keys (plain_held key) (plain_keys rest)

-- a list of expressions, as a vector shows it
abbrev pub exprs_of : List Expr → PlainExprs
exprs_of [] = no_exprs
exprs_of (e ∷ es) = more_exprs (plain_expr e) (exprs_of es)

-- an expression that may be left out
abbrev pub maybe_of : Option Expr → MaybeExpr
maybe_of None = no_expr
maybe_of (Some e) = some_expr (plain_expr e)

-- the same, where the expression stands in a box
abbrev pub boxed_of : Option (Box Expr Global) → MaybeExpr
boxed_of None = no_expr
boxed_of (Some e) = some_expr (plain_expr e.value)

-- the items of an array literal, as a vector shows them
abbrev pub items_of : List (Option Expr × Expr) → PlainItems
items_of [] = no_items
items_of (e ∷ es) = more_items (maybe_of e.0) (plain_expr e.1) (items_of es)

-- the keys of a target, as a vector shows them
abbrev pub path_of : List (Option Expr) → PlainPath
path_of [] = no_keys
path_of (k ∷ ks) = more_keys (maybe_of k) (path_of ks)

-- the variable that a target writes, and the path of keys
abbrev pub target_name : Target → List ℕ
target_name t = (out-Target t).name

-- the path of keys of a target, the outermost first
abbrev pub target_path : Target → PlainPath
target_path t = path_of (out-Target t).path.items

unfoldable mutual
  -- the plain form of a statement
  pub plain_stmt : Stmt → PlainStmt
  plain_stmt (Inline t) = inline_stmt t
  plain_stmt (Echo es) = echo_stmt (exprs_of es.items)
  plain_stmt (Run e) = run_stmt (plain_expr e)
  plain_stmt (If' arms_shape arms shape body) = if_stmt (plain_arms arms) (plain_stmts body)
  plain_stmt (While' e shape body) = while_stmt (plain_expr e) (plain_stmts body)
  plain_stmt (DoWhile' shape body e) = do_while_stmt (plain_stmts body) (plain_expr e)
  plain_stmt (For' begin condition next shape body) =
      for_stmt (exprs_of begin.items) (maybe_of condition) (exprs_of next.items) (plain_stmts body)
  plain_stmt (Each' e key value shape body) = each_stmt (plain_expr e) key value (plain_stmts body)
  plain_stmt Break = break_stmt
  plain_stmt Continue = continue_stmt
  plain_stmt (Return e) = return_stmt (maybe_of e)
  plain_stmt (Include t) = include_stmt t
  plain_stmt (Quit e) = quit_stmt (maybe_of e)

  -- the plain form of statements, in their order
  pub plain_stmts : {n : _} → Row_of-Stmt n → PlainStmts
  plain_stmts end_of-Stmt = no_stmts
  plain_stmts (more_of-Stmt s rest) = more_stmts (plain_stmt s) (plain_stmts rest)

  -- the plain form of the arms of an `if`, in their order
  pub plain_arms : {n : _} → Row_of-Stmt-If-0-3 n → PlainArms
  plain_arms end_of-Stmt-If-0-3 = no_arms
  plain_arms (more_of-Stmt-If-0-3 e shape body rest) = more_arms (plain_expr e) (plain_stmts body) (plain_arms rest)

-- a list of statements, as a vector shows it
abbrev pub stmts_of : List Stmt → PlainStmts
stmts_of [] = no_stmts
stmts_of (s ∷ ss) = more_stmts (plain_stmt s) (stmts_of ss)

-- the arms of an `if`, as a vector shows them
abbrev pub arms_of : List (Expr × Vec Stmt Global) → PlainArms
arms_of [] = no_arms
arms_of (a ∷ rest) = more_arms (plain_expr a.0) (stmts_of a.1.items) (arms_of rest)

-- the plain form of a parameter
abbrev pub plain_param : Param → PlainParam
plain_param p = record { name_of = p.name; default_of = maybe_of p.default }

-- a list of parameters, as a vector shows it
abbrev pub params_of_list : List Param → List PlainParam
params_of_list [] = []
params_of_list (p ∷ ps) = plain_param p ∷ params_of_list ps

-- the plain form of a function
abbrev pub plain_function : FunctionDef → PlainFunction
plain_function f = record { name_of = f.name; params_of = params_of_list f.params.items; body_of = stmts_of f.body.items }

-- a list of functions, as a vector shows it
abbrev pub functions_of_list : List FunctionDef → List PlainFunction
functions_of_list [] = []
functions_of_list (f ∷ fs) = plain_function f ∷ functions_of_list fs

-- the plain form of the tree of a file
abbrev pub plain_file : FileTree → PlainFile
plain_file t = record { body_of = stmts_of t.body.items; functions_of = functions_of_list t.functions.items }
