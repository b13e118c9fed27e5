-- The rules that a tree of the language keeps beside the grammar.
use Rattle.std.specs.Prelude.{ℕ, Bool, true, false, not, ◌==◌, ◌&&◌, List, [], ◌∷◌, length, Option, Some, None, is_some, if◌then◌else◌}
use Rattle.std.specs.List.{list_any}
use Rattle.std.specs.Str.Lossy.{utf8_valid_len}
use Rattle.php_syntax.specs.declared.tree.SuperName.{SuperName}
use Rattle.php_syntax.specs.declared.tree.SuperName.TheVariants as request
use Rattle.php_syntax.specs.Trees.{PlainExpr, null_expr, flag_expr, int_expr, text_expr, var_expr, super_expr, member_expr, array_expr, join_expr, neg_expr, not_expr, arith_expr, compare_expr, and_expr, or_expr, coalesce_expr, choice_expr, isset_expr, empty_expr, assign_expr, update_expr, step_expr, call_expr, MaybeExpr, no_expr, some_expr, PlainExprs, no_exprs, more_exprs, PlainItems, no_items, more_items, PlainPath, no_keys, more_keys, PlainStmt, inline_stmt, echo_stmt, run_stmt, if_stmt, while_stmt, do_while_stmt, for_stmt, each_stmt, break_stmt, continue_stmt, return_stmt, include_stmt, quit_stmt, PlainStmts, no_stmts, more_stmts, PlainArms, no_arms, more_arms, PlainParam, PlainFunction, PlainFile}
use Rattle.script_grammar.specs.Terminals.{same_bytes}
use Rattle.script_grammar.specs.Reserved.{request_name, outside_names}

-- a variable of the language
abbrev pub is_known : List ℕ → Bool
is_known x = not (list_any (same_bytes x) outside_names)

-- which variable of the request a name is, if it is one
abbrev pub request_named : List ℕ → Option SuperName
request_named x =
    if same_bytes x (request_name request.Get) then Some request.Get
    else (if same_bytes x (request_name request.Post) then Some request.Post
    else (if same_bytes x (request_name request.Cookie) then Some request.Cookie
    else (if same_bytes x (request_name request.Request) then Some request.Request
    else (if same_bytes x (request_name request.Server) then Some request.Server
    else None))))

-- whether a name is one of the request's five variables
abbrev pub is_request : List ℕ → Bool
is_request x = is_some (request_named x)

-- a variable that may be written: no variable of the request
abbrev pub is_writable : List ℕ → Bool
is_writable x = is_known x && not (is_request x)

-- a variable with subscripts, as an operand of `isset` and `empty` has to be
abbrev pub is_place : PlainExpr → Bool
is_place (var_expr x) = true
is_place (super_expr s) = true
is_place (member_expr a k) = is_place a
is_place _ = false

-- whether each of the operands is a variable with subscripts
abbrev pub all_places : PlainExprs → Bool
all_places no_exprs = true
all_places (more_exprs e es) = is_place e && all_places es

-- whether each place of a path has a key
abbrev pub all_keyed : PlainPath → Bool
all_keyed no_keys = true
all_keyed (more_keys no_expr ks) = false
all_keyed (more_keys (some_expr k) ks) = all_keyed ks

-- whether each place of a path but the last has a key
abbrev pub keyed_before_last : PlainPath → Bool
keyed_before_last no_keys = true
keyed_before_last (more_keys k no_keys) = true
keyed_before_last (more_keys no_expr (more_keys l ks)) = false
keyed_before_last (more_keys (some_expr k) (more_keys l ks)) = keyed_before_last (more_keys l ks)

unfoldable mutual
  -- whether an expression keeps the rules: its variables are known, what is written may be written, and keys are left out at an end alone
  pub expr_fits : PlainExpr → Bool
  expr_fits null_expr = true
  expr_fits (flag_expr b) = true
  expr_fits (int_expr z) = true
  expr_fits (text_expr t) = true
  expr_fits (var_expr x) = is_known x
  expr_fits (super_expr s) = true
  expr_fits (member_expr a b) = expr_fits a && expr_fits b
  expr_fits (array_expr is) = items_fit is
  expr_fits (join_expr es) = exprs_fit es
  expr_fits (neg_expr a) = expr_fits a
  expr_fits (not_expr a) = expr_fits a
  expr_fits (arith_expr s a b) = expr_fits a && expr_fits b
  expr_fits (compare_expr s a b) = expr_fits a && expr_fits b
  expr_fits (and_expr a b) = expr_fits a && expr_fits b
  expr_fits (or_expr a b) = expr_fits a && expr_fits b
  expr_fits (coalesce_expr a b) = expr_fits a && expr_fits b
  expr_fits (choice_expr a m b) = expr_fits a && (maybe_fits m && expr_fits b)
  expr_fits (isset_expr es) = all_places es && exprs_fit es
  expr_fits (empty_expr a) = is_place a && expr_fits a
  expr_fits (assign_expr x ks e) = is_writable x && (keyed_before_last ks && (path_fits ks && expr_fits e))
  expr_fits (update_expr s x ks e) = is_writable x && (all_keyed ks && (path_fits ks && expr_fits e))
  expr_fits (step_expr x up before) = is_writable x
  expr_fits (call_expr f es) = exprs_fit es

  -- whether an expression keeps the rules, if there is one
  pub maybe_fits : MaybeExpr → Bool
  maybe_fits no_expr = true
  maybe_fits (some_expr e) = expr_fits e

  -- whether each of the expressions keeps the rules
  pub exprs_fit : PlainExprs → Bool
  exprs_fit no_exprs = true
  exprs_fit (more_exprs e es) = expr_fits e && exprs_fit es

  -- whether each key and each value of the items keeps the rules
  pub items_fit : PlainItems → Bool
  items_fit no_items = true
  items_fit (more_items k e is) = maybe_fits k && (expr_fits e && items_fit is)

  -- whether each key of a target keeps the rules
  pub path_fits : PlainPath → Bool
  path_fits no_keys = true
  path_fits (more_keys k ks) = maybe_fits k && path_fits ks

-- a variable that may be left out
abbrev pub maybe_writable : Option (List ℕ) → Bool
maybe_writable None = true
maybe_writable (Some x) = is_writable x

-- a text that is UTF-8
abbrev pub is_utf8 : List ℕ → Bool
is_utf8 t = utf8_valid_len t == length t

-- in a loop of the same body or not, and in a function or not
unfoldable mutual
  -- whether a statement keeps the rules; `break` and `continue` stand in a loop, and `return` in a function
  pub stmt_fits : Bool → Bool → PlainStmt → Bool
  stmt_fits in_loop in_function (inline_stmt t) = true
  stmt_fits in_loop in_function (echo_stmt es) = exprs_fit es
  stmt_fits in_loop in_function (run_stmt e) = expr_fits e
  stmt_fits in_loop in_function (if_stmt a ss) = arms_fit in_loop in_function a && stmts_fit in_loop in_function ss
  stmt_fits in_loop in_function (while_stmt e ss) = expr_fits e && stmts_fit true in_function ss
  stmt_fits in_loop in_function (do_while_stmt ss e) = stmts_fit true in_function ss && expr_fits e
  stmt_fits in_loop in_function (for_stmt begin e next ss) =
      exprs_fit begin && (maybe_fits e && (exprs_fit next && stmts_fit true in_function ss))
  stmt_fits in_loop in_function (each_stmt e k x ss) = expr_fits e && (maybe_writable k && (is_writable x && stmts_fit true in_function ss))
  stmt_fits in_loop in_function break_stmt = in_loop
  stmt_fits in_loop in_function continue_stmt = in_loop
  stmt_fits in_loop in_function (return_stmt e) = in_function && maybe_fits e
  stmt_fits in_loop in_function (include_stmt t) = is_utf8 t
  stmt_fits in_loop in_function (quit_stmt e) = maybe_fits e

  -- whether each of the statements keeps the rules
  pub stmts_fit : Bool → Bool → PlainStmts → Bool
  stmts_fit in_loop in_function no_stmts = true
  stmts_fit in_loop in_function (more_stmts s ss) = stmt_fits in_loop in_function s && stmts_fit in_loop in_function ss

  -- whether each condition and each statement in the arms of an `if` keeps the rules
  pub arms_fit : Bool → Bool → PlainArms → Bool
  arms_fit in_loop in_function no_arms = true
  arms_fit in_loop in_function (more_arms e ss a) = expr_fits e && (stmts_fit in_loop in_function ss && arms_fit in_loop in_function a)

-- whether a name is none of the parameters'
abbrev pub is_new_name : List ℕ → List PlainParam → Bool
is_new_name x [] = true
is_new_name x (p ∷ ps) = not (same_bytes x p.name_of) && is_new_name x ps

-- parameters have distinct names, and none is a variable of the request
abbrev pub params_fit : List PlainParam → Bool
params_fit [] = true
params_fit (p ∷ ps) = is_writable p.name_of && (is_new_name p.name_of ps && params_fit ps)

-- whether each function keeps the rules, in its parameters and in its body, which stands in no loop
abbrev pub functions_fit : List PlainFunction → Bool
functions_fit [] = true
functions_fit (f ∷ fs) = params_fit f.params_of && (stmts_fit false true f.body_of && functions_fit fs)

-- the tree of a file keeps the rules
abbrev pub file_fits : PlainFile → Bool
file_fits t = stmts_fit false false t.body_of && functions_fit t.functions_of
