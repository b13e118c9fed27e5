-- A lawful program has a key at each place of a target that is read before it is written.
use Rattle.std.proofs.Common.{◌≡◌, List, [], ◌∷◌, Bool, true, false, ◌&&◌}
use Rattle.php_syntax.specs.Trees.{PlainExpr, null_expr, flag_expr, int_expr, text_expr, var_expr, super_expr, member_expr, array_expr, join_expr, neg_expr, not_expr, arith_expr, compare_expr, and_expr, or_expr, coalesce_expr, choice_expr, isset_expr, empty_expr, assign_expr, update_expr, step_expr, call_expr, MaybeExpr, no_expr, some_expr, PlainExprs, no_exprs, more_exprs, PlainItems, no_items, more_items, PlainPath, no_keys, more_keys, PlainStmt, inline_stmt, echo_stmt, run_stmt, if_stmt, while_stmt, do_while_stmt, for_stmt, each_stmt, break_stmt, continue_stmt, return_stmt, include_stmt, quit_stmt, PlainStmts, no_stmts, more_stmts, PlainArms, no_arms, more_arms, PlainFunction}
use Rattle.script_grammar.specs.Rules.{is_writable, maybe_writable, is_place, all_places, all_keyed, keyed_before_last, expr_fits, maybe_fits, exprs_fit, items_fit, path_fits, stmt_fits, stmts_fit, arms_fit, params_fit, functions_fit}
use Rattle.script_meaning.specs.Programs.{PlainProgram}
use Rattle.program_rules.specs.Lawful.{IsLawful}
use Rattle.flow_runs.specs.Keyed.{HasKeys, ExprKeyed, MaybeKeyed, ExprsKeyed, ItemsKeyed, PathKeyed, StmtKeyed, StmtsKeyed, ArmsKeyed, FunctionsKeyed, ProgramKeyed}
use Rattle.flow_runs.proofs.Fitting.{left, right}

has_keys : (ks : PlainPath) → all_keyed ks ≡ true → HasKeys ks
unfolding HasKeys
has_keys no_keys s = tt
has_keys (more_keys no_expr ks) s = absurd cc
has_keys (more_keys (some_expr k) ks) s = has_keys ks s

mutual
  unfolding ExprKeyed expr_fits

  expr_keyed : (e : PlainExpr) → expr_fits e ≡ true → ExprKeyed e
  expr_keyed null_expr s = tt
  expr_keyed (flag_expr b) s = tt
  expr_keyed (int_expr z) s = tt
  expr_keyed (text_expr t) s = tt
  expr_keyed (var_expr x) s = tt
  expr_keyed (super_expr name) s = tt
  expr_keyed (member_expr a b) s = (expr_keyed a (left (expr_fits a) (expr_fits b) s), expr_keyed b (right (expr_fits a) (expr_fits b) s))
  expr_keyed (array_expr items) s = items_keyed items s
  expr_keyed (join_expr parts) s = exprs_keyed parts s
  expr_keyed (neg_expr a) s = expr_keyed a s
  expr_keyed (not_expr a) s = expr_keyed a s
  expr_keyed (arith_expr sign a b) s = (expr_keyed a (left (expr_fits a) (expr_fits b) s), expr_keyed b (right (expr_fits a) (expr_fits b) s))
  expr_keyed (compare_expr sign a b) s = (expr_keyed a (left (expr_fits a) (expr_fits b) s), expr_keyed b (right (expr_fits a) (expr_fits b) s))
  expr_keyed (and_expr a b) s = (expr_keyed a (left (expr_fits a) (expr_fits b) s), expr_keyed b (right (expr_fits a) (expr_fits b) s))
  expr_keyed (or_expr a b) s = (expr_keyed a (left (expr_fits a) (expr_fits b) s), expr_keyed b (right (expr_fits a) (expr_fits b) s))
  expr_keyed (coalesce_expr a b) s = (expr_keyed a (left (expr_fits a) (expr_fits b) s), expr_keyed b (right (expr_fits a) (expr_fits b) s))
  expr_keyed (choice_expr a m b) s =
      let s1 = right (expr_fits a) (maybe_fits m && expr_fits b) s in
      (expr_keyed a (left (expr_fits a) (maybe_fits m && expr_fits b) s), maybe_keyed m (left (maybe_fits m) (expr_fits b) s1), expr_keyed b (right (maybe_fits m) (expr_fits b) s1))
  expr_keyed (isset_expr parts) s = exprs_keyed parts (right (all_places parts) (exprs_fit parts) s)
  expr_keyed (empty_expr a) s = expr_keyed a (right (is_place a) (expr_fits a) s)
  expr_keyed (assign_expr x path e) s =
      let s1 = right (keyed_before_last path) (path_fits path && expr_fits e) (right (is_writable x) (keyed_before_last path && (path_fits path && expr_fits e)) s) in
      (path_keyed path (left (path_fits path) (expr_fits e) s1), expr_keyed e (right (path_fits path) (expr_fits e) s1))
  expr_keyed (update_expr sign x path e) s =
      let s1 = right (is_writable x) (all_keyed path && (path_fits path && expr_fits e)) s in
      let s2 = right (all_keyed path) (path_fits path && expr_fits e) s1 in
      (has_keys path (left (all_keyed path) (path_fits path && expr_fits e) s1), path_keyed path (left (path_fits path) (expr_fits e) s2), expr_keyed e (right (path_fits path) (expr_fits e) s2))
  expr_keyed (step_expr x up before) s = tt
  expr_keyed (call_expr name args) s = exprs_keyed args s

  maybe_keyed : (m : MaybeExpr) → maybe_fits m ≡ true → MaybeKeyed m
  maybe_keyed no_expr s = tt
  maybe_keyed (some_expr e) s = expr_keyed e s

  exprs_keyed : (es : PlainExprs) → exprs_fit es ≡ true → ExprsKeyed es
  exprs_keyed no_exprs s = tt
  exprs_keyed (more_exprs e es) s = (expr_keyed e (left (expr_fits e) (exprs_fit es) s), exprs_keyed es (right (expr_fits e) (exprs_fit es) s))

  items_keyed : (is : PlainItems) → items_fit is ≡ true → ItemsKeyed is
  items_keyed no_items s = tt
  items_keyed (more_items k e is) s =
      let s1 = right (maybe_fits k) (expr_fits e && items_fit is) s in
      (maybe_keyed k (left (maybe_fits k) (expr_fits e && items_fit is) s), expr_keyed e (left (expr_fits e) (items_fit is) s1), items_keyed is (right (expr_fits e) (items_fit is) s1))

  path_keyed : (ks : PlainPath) → path_fits ks ≡ true → PathKeyed ks
  path_keyed no_keys s = tt
  path_keyed (more_keys k ks) s = (maybe_keyed k (left (maybe_fits k) (path_fits ks) s), path_keyed ks (right (maybe_fits k) (path_fits ks) s))

mutual
  unfolding StmtKeyed stmt_fits

  stmt_keyed : (i g : Bool) (st : PlainStmt) → stmt_fits i g st ≡ true → StmtKeyed st
  stmt_keyed i g (inline_stmt bytes) s = tt
  stmt_keyed i g (echo_stmt es) s = exprs_keyed es s
  stmt_keyed i g (run_stmt e) s = expr_keyed e s
  stmt_keyed i g (if_stmt arms ss) s = (arms_keyed i g arms (left (arms_fit i g arms) (stmts_fit i g ss) s), stmts_keyed i g ss (right (arms_fit i g arms) (stmts_fit i g ss) s))
  stmt_keyed i g (while_stmt e ss) s = (expr_keyed e (left (expr_fits e) (stmts_fit true g ss) s), stmts_keyed true g ss (right (expr_fits e) (stmts_fit true g ss) s))
  stmt_keyed i g (do_while_stmt ss e) s = (stmts_keyed true g ss (left (stmts_fit true g ss) (expr_fits e) s), expr_keyed e (right (stmts_fit true g ss) (expr_fits e) s))
  stmt_keyed i g (for_stmt begin e next ss) s =
      let s1 = right (exprs_fit begin) (maybe_fits e && (exprs_fit next && stmts_fit true g ss)) s in
      let s2 = right (maybe_fits e) (exprs_fit next && stmts_fit true g ss) s1 in
      (exprs_keyed begin (left (exprs_fit begin) (maybe_fits e && (exprs_fit next && stmts_fit true g ss)) s), maybe_keyed e (left (maybe_fits e) (exprs_fit next && stmts_fit true g ss) s1), exprs_keyed next (left (exprs_fit next) (stmts_fit true g ss) s2), stmts_keyed true g ss (right (exprs_fit next) (stmts_fit true g ss) s2))
  stmt_keyed i g (each_stmt e key x ss) s =
      let s1 = right (maybe_writable key) (is_writable x && stmts_fit true g ss) (right (expr_fits e) (maybe_writable key && (is_writable x && stmts_fit true g ss)) s) in
      (expr_keyed e (left (expr_fits e) (maybe_writable key && (is_writable x && stmts_fit true g ss)) s), stmts_keyed true g ss (right (is_writable x) (stmts_fit true g ss) s1))
  stmt_keyed i g break_stmt s = tt
  stmt_keyed i g continue_stmt s = tt
  stmt_keyed i g (return_stmt e) s = maybe_keyed e (right g (maybe_fits e) s)
  stmt_keyed i g (include_stmt path) s = tt
  stmt_keyed i g (quit_stmt e) s = maybe_keyed e s

  stmts_keyed : (i g : Bool) (ss : PlainStmts) → stmts_fit i g ss ≡ true → StmtsKeyed ss
  stmts_keyed i g no_stmts s = tt
  stmts_keyed i g (more_stmts st ss) s = (stmt_keyed i g st (left (stmt_fits i g st) (stmts_fit i g ss) s), stmts_keyed i g ss (right (stmt_fits i g st) (stmts_fit i g ss) s))

  arms_keyed : (i g : Bool) (arms : PlainArms) → arms_fit i g arms ≡ true → ArmsKeyed arms
  arms_keyed i g no_arms s = tt
  arms_keyed i g (more_arms e ss arms) s =
      let s1 = right (expr_fits e) (stmts_fit i g ss && arms_fit i g arms) s in
      (expr_keyed e (left (expr_fits e) (stmts_fit i g ss && arms_fit i g arms) s), stmts_keyed i g ss (left (stmts_fit i g ss) (arms_fit i g arms) s1), arms_keyed i g arms (right (stmts_fit i g ss) (arms_fit i g arms) s1))

functions_keyed : (fs : List PlainFunction) → functions_fit fs ≡ true → FunctionsKeyed fs
functions_keyed [] s = tt
functions_keyed (f ∷ fs) s =
    let s1 = right (params_fit f.params_of) (stmts_fit false true f.body_of && functions_fit fs) s in
    (stmts_keyed false true f.body_of (left (stmts_fit false true f.body_of) (functions_fit fs) s1), functions_keyed fs (right (stmts_fit false true f.body_of) (functions_fit fs) s1))

pub program_keyed : (program : PlainProgram) → IsLawful program → ProgramKeyed program
program_keyed program h = record {
  main = stmts_keyed false false program.main_of (left (stmts_fit false false program.main_of) (functions_fit program.functions_of) h.fits);
  functions = functions_keyed program.functions_of (right (stmts_fit false false program.main_of) (functions_fit program.functions_of) h.fits);
}
