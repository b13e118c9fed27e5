-- Height and number of the nodes of a tree. Each expression and statement, each target, function and parameter is a node; arms of an
-- `if` and items of an array are not. A leaf has height 1, and each other node one more than its highest part.
use Rattle.std.specs.Prelude.{ℕ, ◌+◌, max, List, [], ◌∷◌}
use Rattle.php_syntax.specs.Trees.{PlainExpr, null_expr, flag_expr, int_expr, text_expr, var_expr, super_expr, member_expr, array_expr, join_expr, neg_expr, not_expr, arith_expr, compare_expr, and_expr, or_expr, coalesce_expr, choice_expr, isset_expr, empty_expr, assign_expr, update_expr, step_expr, call_expr, MaybeExpr, no_expr, some_expr, PlainExprs, no_exprs, more_exprs, PlainItems, no_items, more_items, PlainPath, no_keys, more_keys, PlainStmt, inline_stmt, echo_stmt, run_stmt, if_stmt, while_stmt, do_while_stmt, for_stmt, each_stmt, break_stmt, continue_stmt, return_stmt, include_stmt, quit_stmt, PlainStmts, no_stmts, more_stmts, PlainArms, no_arms, more_arms, PlainParam, PlainFunction, PlainFile}

unfoldable mutual
  -- the height of an expression; a target is a node between an assignment and its keys
  pub height : PlainExpr → ℕ
  height null_expr = 1
  height (flag_expr b) = 1
  height (int_expr z) = 1
  height (text_expr t) = 1
  height (var_expr x) = 1
  height (super_expr s) = 1
  height (member_expr a b) = 1 + max (height a) (height b)
  height (array_expr is) = 1 + items_height is
  height (join_expr es) = 1 + exprs_height es
  height (neg_expr a) = 1 + height a
  height (not_expr a) = 1 + height a
  height (arith_expr s a b) = 1 + max (height a) (height b)
  height (compare_expr s a b) = 1 + max (height a) (height b)
  height (and_expr a b) = 1 + max (height a) (height b)
  height (or_expr a b) = 1 + max (height a) (height b)
  height (coalesce_expr a b) = 1 + max (height a) (height b)
  height (choice_expr a m b) = 1 + max (height a) (max (maybe_height m) (height b))
  height (isset_expr es) = 1 + exprs_height es
  height (empty_expr a) = 1 + height a
  height (assign_expr x ks e) = 1 + max (1 + path_height ks) (height e)
  height (update_expr s x ks e) = 1 + max (1 + path_height ks) (height e)
  height (step_expr x up before) = 1
  height (call_expr f es) = 1 + exprs_height es

  -- the height of an expression that may be left out, 0 where it is
  pub maybe_height : MaybeExpr → ℕ
  maybe_height no_expr = 0
  maybe_height (some_expr e) = height e

  -- the height of the highest expression of a row, 0 where there is none
  pub exprs_height : PlainExprs → ℕ
  exprs_height no_exprs = 0
  exprs_height (more_exprs e es) = max (height e) (exprs_height es)

  -- the height of the highest key or value among items, 0 where there is none
  pub items_height : PlainItems → ℕ
  items_height no_items = 0
  items_height (more_items k e is) = max (maybe_height k) (max (height e) (items_height is))

  -- the height of the highest key of a path, 0 where there is none
  pub path_height : PlainPath → ℕ
  path_height no_keys = 0
  path_height (more_keys k ks) = max (maybe_height k) (path_height ks)

unfoldable mutual
  -- the height of a statement
  pub stmt_height : PlainStmt → ℕ
  stmt_height (inline_stmt t) = 1
  stmt_height (echo_stmt es) = 1 + exprs_height es
  stmt_height (run_stmt e) = 1 + height e
  stmt_height (if_stmt a ss) = 1 + max (arms_height a) (stmts_height ss)
  stmt_height (while_stmt e ss) = 1 + max (height e) (stmts_height ss)
  stmt_height (do_while_stmt ss e) = 1 + max (stmts_height ss) (height e)
  stmt_height (for_stmt begin e next ss) = 1 + max (exprs_height begin) (max (maybe_height e) (max (exprs_height next) (stmts_height ss)))
  stmt_height (each_stmt e k x ss) = 1 + max (height e) (stmts_height ss)
  stmt_height break_stmt = 1
  stmt_height continue_stmt = 1
  stmt_height (return_stmt e) = 1 + maybe_height e
  stmt_height (include_stmt t) = 1
  stmt_height (quit_stmt e) = 1 + maybe_height e

  -- the height of the highest statement of a row, 0 where there is none
  pub stmts_height : PlainStmts → ℕ
  stmts_height no_stmts = 0
  stmts_height (more_stmts s ss) = max (stmt_height s) (stmts_height ss)

  -- the height of the highest condition or statement in the arms of an `if`, 0 where there is no arm
  pub arms_height : PlainArms → ℕ
  arms_height no_arms = 0
  arms_height (more_arms e ss a) = max (height e) (max (stmts_height ss) (arms_height a))

-- the height of the highest parameter: 1 without a default, and else one more than that of the default; 0 where there is none
abbrev pub params_height : List PlainParam → ℕ
params_height [] = 0
params_height (p ∷ ps) = max (1 + maybe_height p.default_of) (params_height ps)

-- the height of the highest function, one more than that of its highest parameter or statement; 0 where there is none
abbrev pub functions_height : List PlainFunction → ℕ
functions_height [] = 0
functions_height (f ∷ fs) = max (1 + max (params_height f.params_of) (stmts_height f.body_of)) (functions_height fs)

-- the height of a file's tree, one more than that of its highest statement or function
abbrev pub file_height : PlainFile → ℕ
file_height t = 1 + max (stmts_height t.body_of) (functions_height t.functions_of)

unfoldable mutual
  -- the nodes of an expression, itself among them
  pub nodes : PlainExpr → ℕ
  nodes null_expr = 1
  nodes (flag_expr b) = 1
  nodes (int_expr z) = 1
  nodes (text_expr t) = 1
  nodes (var_expr x) = 1
  nodes (super_expr s) = 1
  nodes (member_expr a b) = 1 + nodes a + nodes b
  nodes (array_expr is) = 1 + items_nodes is
  nodes (join_expr es) = 1 + exprs_nodes es
  nodes (neg_expr a) = 1 + nodes a
  nodes (not_expr a) = 1 + nodes a
  nodes (arith_expr s a b) = 1 + nodes a + nodes b
  nodes (compare_expr s a b) = 1 + nodes a + nodes b
  nodes (and_expr a b) = 1 + nodes a + nodes b
  nodes (or_expr a b) = 1 + nodes a + nodes b
  nodes (coalesce_expr a b) = 1 + nodes a + nodes b
  nodes (choice_expr a m b) = 1 + nodes a + maybe_nodes m + nodes b
  nodes (isset_expr es) = 1 + exprs_nodes es
  nodes (empty_expr a) = 1 + nodes a
  nodes (assign_expr x ks e) = 2 + path_nodes ks + nodes e
  nodes (update_expr s x ks e) = 2 + path_nodes ks + nodes e
  nodes (step_expr x up before) = 1
  nodes (call_expr f es) = 1 + exprs_nodes es

  -- the nodes of an expression that may be left out
  pub maybe_nodes : MaybeExpr → ℕ
  maybe_nodes no_expr = 0
  maybe_nodes (some_expr e) = nodes e

  -- the nodes of expressions in a row
  pub exprs_nodes : PlainExprs → ℕ
  exprs_nodes no_exprs = 0
  exprs_nodes (more_exprs e es) = nodes e + exprs_nodes es

  -- the nodes of the keys and the values of items
  pub items_nodes : PlainItems → ℕ
  items_nodes no_items = 0
  items_nodes (more_items k e is) = maybe_nodes k + nodes e + items_nodes is

  -- the nodes of the keys of a path
  pub path_nodes : PlainPath → ℕ
  path_nodes no_keys = 0
  path_nodes (more_keys k ks) = maybe_nodes k + path_nodes ks

unfoldable mutual
  -- the nodes of a statement, itself among them
  pub stmt_nodes : PlainStmt → ℕ
  stmt_nodes (inline_stmt t) = 1
  stmt_nodes (echo_stmt es) = 1 + exprs_nodes es
  stmt_nodes (run_stmt e) = 1 + nodes e
  stmt_nodes (if_stmt a ss) = 1 + arms_nodes a + stmts_nodes ss
  stmt_nodes (while_stmt e ss) = 1 + nodes e + stmts_nodes ss
  stmt_nodes (do_while_stmt ss e) = 1 + stmts_nodes ss + nodes e
  stmt_nodes (for_stmt begin e next ss) = 1 + exprs_nodes begin + maybe_nodes e + exprs_nodes next + stmts_nodes ss
  stmt_nodes (each_stmt e k x ss) = 1 + nodes e + stmts_nodes ss
  stmt_nodes break_stmt = 1
  stmt_nodes continue_stmt = 1
  stmt_nodes (return_stmt e) = 1 + maybe_nodes e
  stmt_nodes (include_stmt t) = 1
  stmt_nodes (quit_stmt e) = 1 + maybe_nodes e

  -- the nodes of statements in a row
  pub stmts_nodes : PlainStmts → ℕ
  stmts_nodes no_stmts = 0
  stmts_nodes (more_stmts s ss) = stmt_nodes s + stmts_nodes ss

  -- the nodes of the conditions and the statements in the arms of an `if`
  pub arms_nodes : PlainArms → ℕ
  arms_nodes no_arms = 0
  arms_nodes (more_arms e ss a) = nodes e + stmts_nodes ss + arms_nodes a

-- the nodes of parameters and their defaults
abbrev pub params_nodes : List PlainParam → ℕ
params_nodes [] = 0
params_nodes (p ∷ ps) = 1 + maybe_nodes p.default_of + params_nodes ps

-- the nodes of functions, of their parameters and of their bodies
abbrev pub functions_nodes : List PlainFunction → ℕ
functions_nodes [] = 0
functions_nodes (f ∷ fs) = 1 + params_nodes f.params_of + stmts_nodes f.body_of + functions_nodes fs

-- the nodes of a file's tree, the file itself among them
abbrev pub file_nodes : PlainFile → ℕ
file_nodes t = 1 + stmts_nodes t.body_of + functions_nodes t.functions_of
