-- One test of a tree: that it is so high at most, that it is spellable, and that it keeps the rules. The number is how high the tree may
-- be.
use Rattle.std.specs.Prelude.{ℕ, ◌-◌, Bool, true, false, ◌&&◌, nat_lt, List, [], ◌∷◌}
use Rattle.php_syntax.specs.Trees.{PlainExpr, null_expr, flag_expr, int_expr, text_expr, var_expr, super_expr, member_expr, array_expr, join_expr, neg_expr, not_expr, arith_expr, compare_expr, and_expr, or_expr, coalesce_expr, choice_expr, isset_expr, empty_expr, assign_expr, update_expr, step_expr, call_expr, MaybeExpr, no_expr, some_expr, PlainExprs, no_exprs, more_exprs, PlainItems, no_items, more_items, PlainPath, no_keys, more_keys, PlainStmt, inline_stmt, echo_stmt, run_stmt, if_stmt, while_stmt, do_while_stmt, for_stmt, each_stmt, break_stmt, continue_stmt, return_stmt, include_stmt, quit_stmt, PlainStmts, no_stmts, more_stmts, PlainArms, no_arms, more_arms, PlainParam, PlainFunction, PlainFile}
use Rattle.script_grammar.specs.Rules.{is_known, is_writable, is_place, all_places, all_keyed, keyed_before_last, maybe_writable, is_utf8, is_new_name}
use Rattle.spellable.specs.Spellable.{is_name, is_call_name, is_own_name, is_integer, is_some_exprs, are_parts, is_inline, is_maybe_name, is_some_arms, is_printed, is_default}

-- room for one node more, and what is asked of its parts
unfoldable pub deep : ℕ → Bool → Bool
deep d b = nat_lt 0 d && b

-- the name of a variable that may be written
abbrev pub is_target : List ℕ → Bool
is_target x = is_name x && is_writable x

-- expressions and lists of them
unfoldable mutual
  -- whether an expression is at most so high, can be written, and keeps the rules beside the grammar
  pub expr_good : PlainExpr → ℕ → Bool
  expr_good null_expr d = deep d true
  expr_good (flag_expr b) d = deep d true
  expr_good (int_expr z) d = deep d (is_integer z)
  expr_good (text_expr t) d = deep d true
  expr_good (var_expr x) d = deep d (is_own_name x && is_known x)
  expr_good (super_expr s) d = deep d true
  expr_good (member_expr a b) d = deep d (expr_good a (d - 1) && expr_good b (d - 1))
  expr_good (array_expr is) d = deep d (items_good is (d - 1))
  expr_good (join_expr es) d = deep d (exprs_good es (d - 1) && are_parts es)
  expr_good (neg_expr a) d = deep d (expr_good a (d - 1))
  expr_good (not_expr a) d = deep d (expr_good a (d - 1))
  expr_good (arith_expr s a b) d = deep d (expr_good a (d - 1) && expr_good b (d - 1))
  expr_good (compare_expr s a b) d = deep d (expr_good a (d - 1) && expr_good b (d - 1))
  expr_good (and_expr a b) d = deep d (expr_good a (d - 1) && expr_good b (d - 1))
  expr_good (or_expr a b) d = deep d (expr_good a (d - 1) && expr_good b (d - 1))
  expr_good (coalesce_expr a b) d = deep d (expr_good a (d - 1) && expr_good b (d - 1))
  expr_good (choice_expr a m b) d = deep d ((expr_good a (d - 1) && expr_good b (d - 1)) && maybe_good m (d - 1))
  expr_good (isset_expr es) d = deep d (exprs_good es (d - 1) && (is_some_exprs es && all_places es))
  expr_good (empty_expr a) d = deep d (expr_good a (d - 1) && is_place a)
  expr_good (assign_expr x ks e) d =
      deep d (deep (d - 1) (is_target x && path_good ks ((d - 1) - 1)) && (keyed_before_last ks && expr_good e (d - 1)))
  expr_good (update_expr s x ks e) d =
      deep d (deep (d - 1) (is_target x && path_good ks ((d - 1) - 1)) && (all_keyed ks && expr_good e (d - 1)))
  expr_good (step_expr x up before) d = deep d (is_target x)
  expr_good (call_expr f es) d = deep d (is_call_name f && exprs_good es (d - 1))

  -- the same of an expression, if there is one
  pub maybe_good : MaybeExpr → ℕ → Bool
  maybe_good no_expr d = true
  maybe_good (some_expr e) d = expr_good e d

  -- the same of each of the expressions
  pub exprs_good : PlainExprs → ℕ → Bool
  exprs_good no_exprs d = true
  exprs_good (more_exprs e es) d = expr_good e d && exprs_good es d

  -- the same of each key and each value of the items
  pub items_good : PlainItems → ℕ → Bool
  items_good no_items d = true
  items_good (more_items k e is) d = (maybe_good k d && expr_good e d) && items_good is d

  -- the same of each key of a target
  pub path_good : PlainPath → ℕ → Bool
  path_good no_keys d = true
  path_good (more_keys k ks) d = maybe_good k d && path_good ks d

-- what is asked of the parts of an expression, each so high at most
abbrev pub parts_good : PlainExpr → ℕ → Bool
parts_good null_expr d = true
parts_good (flag_expr b) d = true
parts_good (int_expr z) d = is_integer z
parts_good (text_expr t) d = true
parts_good (var_expr x) d = is_own_name x && is_known x
parts_good (super_expr s) d = true
parts_good (member_expr a b) d = expr_good a d && expr_good b d
parts_good (array_expr is) d = items_good is d
parts_good (join_expr es) d = exprs_good es d && are_parts es
parts_good (neg_expr a) d = expr_good a d
parts_good (not_expr a) d = expr_good a d
parts_good (arith_expr s a b) d = expr_good a d && expr_good b d
parts_good (compare_expr s a b) d = expr_good a d && expr_good b d
parts_good (and_expr a b) d = expr_good a d && expr_good b d
parts_good (or_expr a b) d = expr_good a d && expr_good b d
parts_good (coalesce_expr a b) d = expr_good a d && expr_good b d
parts_good (choice_expr a m b) d = (expr_good a d && expr_good b d) && maybe_good m d
parts_good (isset_expr es) d = exprs_good es d && (is_some_exprs es && all_places es)
parts_good (empty_expr a) d = expr_good a d && is_place a
parts_good (assign_expr x ks e) d = deep d (is_target x && path_good ks (d - 1)) && (keyed_before_last ks && expr_good e d)
parts_good (update_expr s x ks e) d = deep d (is_target x && path_good ks (d - 1)) && (all_keyed ks && expr_good e d)
parts_good (step_expr x up before) d = is_target x
parts_good (call_expr f es) d = is_call_name f && exprs_good es d

-- in a loop of the same body or not, and in a function or not
unfoldable mutual
  -- whether a statement is at most so high, can be written, and keeps the rules beside the grammar
  pub stmt_good : PlainStmt → Bool → Bool → ℕ → Bool
  stmt_good (inline_stmt t) in_loop in_function d = deep d (is_inline t)
  stmt_good (echo_stmt es) in_loop in_function d = deep d (is_some_exprs es && exprs_good es (d - 1))
  stmt_good (run_stmt e) in_loop in_function d = deep d (expr_good e (d - 1))
  stmt_good (if_stmt a ss) in_loop in_function d =
      deep d ((is_some_arms a && arms_good a in_loop in_function (d - 1)) && stmts_good ss in_loop in_function (d - 1))
  stmt_good (while_stmt e ss) in_loop in_function d = deep d (expr_good e (d - 1) && stmts_good ss true in_function (d - 1))
  stmt_good (do_while_stmt ss e) in_loop in_function d = deep d (expr_good e (d - 1) && stmts_good ss true in_function (d - 1))
  stmt_good (for_stmt begin e next ss) in_loop in_function d =
      deep d ((exprs_good begin (d - 1) && (maybe_good e (d - 1) && exprs_good next (d - 1))) && stmts_good ss true in_function (d - 1))
  stmt_good (each_stmt e k x ss) in_loop in_function d =
      deep d ((expr_good e (d - 1) && ((is_maybe_name k && maybe_writable k) && is_target x)) && stmts_good ss true in_function (d - 1))
  stmt_good break_stmt in_loop in_function d = deep d in_loop
  stmt_good continue_stmt in_loop in_function d = deep d in_loop
  stmt_good (return_stmt e) in_loop in_function d = deep d (in_function && maybe_good e (d - 1))
  stmt_good (include_stmt t) in_loop in_function d = deep d (is_utf8 t)
  stmt_good (quit_stmt e) in_loop in_function d = deep d (is_printed e && maybe_good e (d - 1))

  -- the same of each of the statements
  pub stmts_good : PlainStmts → Bool → Bool → ℕ → Bool
  stmts_good no_stmts in_loop in_function d = true
  stmts_good (more_stmts s ss) in_loop in_function d = stmt_good s in_loop in_function d && stmts_good ss in_loop in_function d

  -- the same of each condition and each statement in the arms of an `if`
  pub arms_good : PlainArms → Bool → Bool → ℕ → Bool
  arms_good no_arms in_loop in_function d = true
  arms_good (more_arms e ss a) in_loop in_function d =
      (expr_good e d && stmts_good ss in_loop in_function d) && arms_good a in_loop in_function d

-- what is asked of the parts of a statement, each so high at most
abbrev pub pieces_good : PlainStmt → Bool → Bool → ℕ → Bool
pieces_good (inline_stmt t) in_loop in_function d = is_inline t
pieces_good (echo_stmt es) in_loop in_function d = is_some_exprs es && exprs_good es d
pieces_good (run_stmt e) in_loop in_function d = expr_good e d
pieces_good (if_stmt a ss) in_loop in_function d =
    (is_some_arms a && arms_good a in_loop in_function d) && stmts_good ss in_loop in_function d
pieces_good (while_stmt e ss) in_loop in_function d = expr_good e d && stmts_good ss true in_function d
pieces_good (do_while_stmt ss e) in_loop in_function d = expr_good e d && stmts_good ss true in_function d
pieces_good (for_stmt begin e next ss) in_loop in_function d =
    (exprs_good begin d && (maybe_good e d && exprs_good next d)) && stmts_good ss true in_function d
pieces_good (each_stmt e k x ss) in_loop in_function d =
    (expr_good e d && ((is_maybe_name k && maybe_writable k) && is_target x)) && stmts_good ss true in_function d
pieces_good break_stmt in_loop in_function d = in_loop
pieces_good continue_stmt in_loop in_function d = in_loop
pieces_good (return_stmt e) in_loop in_function d = in_function && maybe_good e d
pieces_good (include_stmt t) in_loop in_function d = is_utf8 t
pieces_good (quit_stmt e) in_loop in_function d = is_printed e && maybe_good e d

-- a parameter, whose name those behind it do not have
abbrev pub param_good : PlainParam → List PlainParam → ℕ → Bool
param_good p ps d = deep d ((is_target p.name_of && is_new_name p.name_of ps)
    && (is_default p.default_of && maybe_good p.default_of (d - 1)))

-- parameters
unfoldable pub params_good : List PlainParam → ℕ → Bool
params_good [] d = true
params_good (p ∷ ps) d = param_good p ps d && params_good ps d

-- a function
abbrev pub function_good : PlainFunction → ℕ → Bool
function_good f d = deep d ((is_call_name f.name_of && params_good f.params_of (d - 1)) && stmts_good f.body_of false true (d - 1))

-- functions
unfoldable pub functions_good : List PlainFunction → ℕ → Bool
functions_good [] d = true
functions_good (f ∷ fs) d = function_good f d && functions_good fs d

-- a file
unfoldable pub file_good : PlainFile → ℕ → Bool
file_good t d = deep d (stmts_good t.body_of false false (d - 1) && functions_good t.functions_of (d - 1))
