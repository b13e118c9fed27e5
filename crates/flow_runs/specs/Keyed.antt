-- Each target of `.=` and its like, and of `??=`, has a key at each place of its path, as in every program that a file spells.
use Rattle.std.specs.Prelude.{⊤, List, [], ◌∷◌}
use Rattle.php_syntax.specs.Trees.{PlainExpr, null_expr, flag_expr, int_expr, text_expr, var_expr, super_expr, member_expr, array_expr, join_expr, neg_expr, not_expr, arith_expr, compare_expr, and_expr, or_expr, coalesce_expr, choice_expr, isset_expr, empty_expr, assign_expr, update_expr, step_expr, call_expr, MaybeExpr, no_expr, some_expr, PlainExprs, no_exprs, more_exprs, PlainItems, no_items, more_items, PlainPath, no_keys, more_keys, PlainStmt, inline_stmt, echo_stmt, run_stmt, if_stmt, while_stmt, do_while_stmt, for_stmt, each_stmt, break_stmt, continue_stmt, return_stmt, include_stmt, quit_stmt, PlainStmts, no_stmts, more_stmts, PlainArms, no_arms, more_arms, PlainFunction}
use Rattle.script_meaning.specs.Programs.{PlainProgram}

-- a key stands at each place of the path
unfoldable pub HasKeys : PlainPath → Type 0
HasKeys no_keys = ⊤
HasKeys (more_keys no_expr ks) = ⊥
HasKeys (more_keys (some_expr k) ks) = HasKeys ks

unfoldable mutual
  unfolding HasKeys

  -- an expression keeps this
  pub ExprKeyed : PlainExpr → Type 0
  ExprKeyed null_expr = ⊤
  ExprKeyed (flag_expr b) = ⊤
  ExprKeyed (int_expr z) = ⊤
  ExprKeyed (text_expr t) = ⊤
  ExprKeyed (var_expr x) = ⊤
  ExprKeyed (super_expr name) = ⊤
  ExprKeyed (member_expr a k) = ExprKeyed a × ExprKeyed k
  ExprKeyed (array_expr items) = ItemsKeyed items
  ExprKeyed (join_expr parts) = ExprsKeyed parts
  ExprKeyed (neg_expr a) = ExprKeyed a
  ExprKeyed (not_expr a) = ExprKeyed a
  ExprKeyed (arith_expr sign a b) = ExprKeyed a × ExprKeyed b
  ExprKeyed (compare_expr sign a b) = ExprKeyed a × ExprKeyed b
  ExprKeyed (and_expr a b) = ExprKeyed a × ExprKeyed b
  ExprKeyed (or_expr a b) = ExprKeyed a × ExprKeyed b
  ExprKeyed (coalesce_expr a b) = ExprKeyed a × ExprKeyed b
  ExprKeyed (choice_expr c m b) = ExprKeyed c × MaybeKeyed m × ExprKeyed b
  ExprKeyed (isset_expr parts) = ExprsKeyed parts
  ExprKeyed (empty_expr a) = ExprKeyed a
  ExprKeyed (assign_expr x path e) = PathKeyed path × ExprKeyed e
  ExprKeyed (update_expr sign x path e) = HasKeys path × PathKeyed path × ExprKeyed e
  ExprKeyed (step_expr x up before) = ⊤
  ExprKeyed (call_expr name args) = ExprsKeyed args

  -- an expression that may be left out keeps this
  pub MaybeKeyed : MaybeExpr → Type 0
  MaybeKeyed no_expr = ⊤
  MaybeKeyed (some_expr e) = ExprKeyed e

  -- each of the expressions keeps this
  pub ExprsKeyed : PlainExprs → Type 0
  ExprsKeyed no_exprs = ⊤
  ExprsKeyed (more_exprs e es) = ExprKeyed e × ExprsKeyed es

  -- each item of an array literal keeps this, in its key and in its value
  pub ItemsKeyed : PlainItems → Type 0
  ItemsKeyed no_items = ⊤
  ItemsKeyed (more_items k e is) = MaybeKeyed k × ExprKeyed e × ItemsKeyed is

  -- each key of a target keeps this
  pub PathKeyed : PlainPath → Type 0
  PathKeyed no_keys = ⊤
  PathKeyed (more_keys k ks) = MaybeKeyed k × PathKeyed ks

unfoldable mutual
  unfolding ExprKeyed

  -- each expression in a statement keeps this
  pub StmtKeyed : PlainStmt → Type 0
  StmtKeyed (inline_stmt bytes) = ⊤
  StmtKeyed (echo_stmt es) = ExprsKeyed es
  StmtKeyed (run_stmt e) = ExprKeyed e
  StmtKeyed (if_stmt arms otherwise) = ArmsKeyed arms × StmtsKeyed otherwise
  StmtKeyed (while_stmt e body) = ExprKeyed e × StmtsKeyed body
  StmtKeyed (do_while_stmt body e) = StmtsKeyed body × ExprKeyed e
  StmtKeyed (for_stmt begin e next body) = ExprsKeyed begin × MaybeKeyed e × ExprsKeyed next × StmtsKeyed body
  StmtKeyed (each_stmt e key x body) = ExprKeyed e × StmtsKeyed body
  StmtKeyed break_stmt = ⊤
  StmtKeyed continue_stmt = ⊤
  StmtKeyed (return_stmt e) = MaybeKeyed e
  StmtKeyed (include_stmt path) = ⊤
  StmtKeyed (quit_stmt e) = MaybeKeyed e

  -- each of the statements keeps this
  pub StmtsKeyed : PlainStmts → Type 0
  StmtsKeyed no_stmts = ⊤
  StmtsKeyed (more_stmts s ss) = StmtKeyed s × StmtsKeyed ss

  -- each arm of an `if` keeps this, in its condition and in its body
  pub ArmsKeyed : PlainArms → Type 0
  ArmsKeyed no_arms = ⊤
  ArmsKeyed (more_arms e body arms) = ExprKeyed e × StmtsKeyed body × ArmsKeyed arms

-- each function keeps this in its body
abbrev pub FunctionsKeyed : List PlainFunction → Type 0
FunctionsKeyed [] = ⊤
FunctionsKeyed (f ∷ fs) = StmtsKeyed f.body_of × FunctionsKeyed fs

-- the program keeps this, outside functions and in them
pub record ProgramKeyed (program : PlainProgram) : Type 0 where
  pub main : StmtsKeyed program.main_of
  pub functions : FunctionsKeyed program.functions_of
