-- How many points a program has.
use Rattle.std.proofs.Common.{◌≡◌, ◌≤◌, ◌+◌, ◌*◌, ℕ, zero, List, [], ◌∷◌, ◌++◌, length, length-append, drop, refl, ap, ◌∙◌, arith, Bool, true, false, ◌&&◌, Option, Some, None}
use Rattle.php_syntax.specs.Trees.{PlainExpr, null_expr, flag_expr, int_expr, text_expr, var_expr, super_expr, member_expr, array_expr, join_expr, neg_expr, not_expr, arith_expr, compare_expr, and_expr, or_expr, coalesce_expr, choice_expr, isset_expr, empty_expr, assign_expr, update_expr, step_expr, call_expr, MaybeExpr, no_expr, some_expr, PlainExprs, no_exprs, more_exprs, PlainItems, no_items, more_items, PlainPath, no_keys, more_keys, PlainStmt, inline_stmt, echo_stmt, run_stmt, if_stmt, while_stmt, do_while_stmt, for_stmt, each_stmt, break_stmt, continue_stmt, return_stmt, include_stmt, quit_stmt, PlainStmts, no_stmts, more_stmts, PlainArms, no_arms, more_arms, PlainParam, PlainFunction}
use Rattle.php_syntax.specs.Height.{nodes, maybe_nodes, exprs_nodes, items_nodes, path_nodes, stmt_nodes, stmts_nodes, arms_nodes, functions_nodes, file_nodes}
use Rattle.php_syntax.specs.declared.tree.UpdateSign.{UpdateSign}
use Rattle.php_syntax.specs.declared.tree.UpdateSign.TheVariants as update
use Rattle.script_grammar.specs.Rules.{is_writable, maybe_writable, is_place, all_places, all_keyed, keyed_before_last, expr_fits, maybe_fits, exprs_fit, items_fit, path_fits, stmt_fits, stmts_fit, arms_fit, params_fit, functions_fit}
use Rattle.builtin_meaning.specs.declared.builtin.Builtin.{Builtin}
use Rattle.builtin_meaning.specs.Names.{builtin_named}
use Rattle.script_meaning.specs.Programs.{PlainProgram, function_named, literal_value}
use Rattle.program_rules.specs.Limits.{as_file}
use Rattle.program_rules.specs.Lawful.{IsLawful}
use Rattle.program_expressions.specs.Collected.{collected, key_collected, collected_of, bodies_collected}
use Rattle.program_rules.specs.Calls.{PlainCall, own_call, calls_in, maybe_calls, part_calls, item_calls, path_calls, calls_of, statement_calls, arm_calls, function_calls, calls_of_program, number_of}
use Rattle.flow_code.specs.Points.{PlainKeyRef, PlainFlow, points_in}
use Rattle.flow_code.specs.Code.{Code, both, Block}
use Rattle.flow_code.specs.Expressions.{Scope, variable, function_in, default_code, default_codes, code, codes, maybe_key, path_code, join_code, Begun, no_item, one_item, items_code, key_code, call_code, call_own, update_code, step_code, old_value, length_of_path, number_of as slots_asked}
use Rattle.flow_code.specs.Completion.{completes, all_complete}
use Rattle.flow_code.specs.Statements.{arm, reached, test_code, return_block, quit_block, echo_block, stmt_block, block, arms_block, pair_size, key_variable}
use Rattle.flow_code.specs.Flat.{scope_of, flat_function, flat_functions, main_function, flat}
use Rattle.flow_runs.specs.Defaults.{HaveDefaults}
use Rattle.flow_runs.proofs.Ends.{world}
use Rattle.flow_runs.proofs.Calls.{CallsDo}
use Rattle.flow_runs.proofs.FitProgram.{no_request, function_long, program_calls}
use Rattle.flow_runs.proofs.Program.{found}
use Rattle.flow_runs.specs.LeftOut.{left_out_of, left_out}
use Rattle.flow_runs.proofs.Fitting.{left, right, same_number, have_defaults}

left_both : (fs : List PlainFunction) (xs ys : List PlainCall) → left_out fs (xs ++ ys) ≡ left_out fs xs + left_out fs ys
left_both fs [] ys = omega arith
left_both fs (x ∷ xs) ys = let e = left_both fs xs ys in omega (arith, e)

default_size : (m : MaybeExpr) → (default_code m).size ≤ 2
unfolding default_code literal_value
default_size no_expr = omega arith
default_size (some_expr (neg_expr (int_expr z))) = omega arith
default_size (some_expr e) = omega arith

defaults_size : (ps : List PlainParam) → (default_codes ps).size ≤ 2 * length ps
unfolding default_codes
defaults_size [] = omega arith
defaults_size (p ∷ ps) = let h = default_size p.default_of in let k = defaults_size ps in omega (arith, h, k)

key_size : (w : Scope) (e : PlainExpr) → (key_code e (code w e)).size ≤ (code w e).size
unfolding code key_code
key_size w (int_expr z) = omega arith
key_size w (text_expr t) = omega arith
key_size w e = omega arith

call_size : (fs : List PlainFunction) (args : Code (List ℕ)) (name : List ℕ) (trees : PlainExprs) (b : Option Builtin) (own : Option (ℕ × PlainFunction)) → builtin_named name ≡ b → function_in 1 fs name ≡ own → (call_code b own trees args).size ≤ args.size + 1 + 2 * left_out_of (builtin_named name) (function_named fs name) (slots_asked trees)
unfolding call_code call_own
call_size fs args name trees (Some b) own eb eo = omega arith
call_size fs args name trees None None eb eo = omega arith
call_size fs args name trees None (Some f) eb eo =
    let named = (found fs 1 f.0 f.1 name eo).named in
    let h = defaults_size (drop (slots_asked trees) (f.1).params_of) in
    let e : left_out_of (builtin_named name) (function_named fs name) (slots_asked trees) ≡ length (drop (slots_asked trees) (f.1).params_of) = ap (λ b. left_out_of b (function_named fs name) (slots_asked trees)) eb ∙ ap (λ o. left_out_of None o (slots_asked trees)) named in
    omega (arith, h, e)

update_size : (sign : UpdateSign) (x n : ℕ) (path : Code (List (Option PlainKeyRef))) (right : Code ℕ) → (update_code sign x (old_value x n path) right).size ≤ path.size + n + right.size + 6
unfolding update_code
update_size update.Coalesce x n path right = omega arith
update_size update.Join x n path right = omega arith
update_size update.Add x n path right = omega arith
update_size update.Sub x n path right = omega arith
update_size update.Mul x n path right = omega arith
update_size update.Rem x n path right = omega arith

step_size : (x : ℕ) (up before : Bool) → (step_code x up before).size ≡ 2
unfolding step_code
step_size x up true = refl
step_size x up false = refl

join_size : (es : PlainExprs) (parts : Code (List ℕ)) → (join_code es parts).size ≤ parts.size + 2
unfolding join_code
join_size no_exprs parts = omega arith
join_size (more_exprs e no_exprs) parts = omega arith
join_size (more_exprs e (more_exprs f es)) parts = omega arith

mutual
  unfolding code nodes collected own_call expr_fits length_of_path

  expr_size : (w : Scope) (e : PlainExpr) → expr_fits e ≡ true → (code w e).size + 2 ≤ 8 * nodes e + 2 * left_out w.functions (calls_in e)
  expr_size w null_expr s = omega arith
  expr_size w (flag_expr b) s = omega arith
  expr_size w (int_expr z) s = omega arith
  expr_size w (text_expr t) s = omega arith
  expr_size w (var_expr x) s = omega arith
  expr_size w (super_expr name) s = omega arith
  expr_size w (member_expr a b) s =
      let h = expr_size w a (left (expr_fits a) (expr_fits b) s) in let k = expr_size w b (right (expr_fits a) (expr_fits b) s) in
      let l = left_both w.functions (calls_in a) (calls_in b) in let m = key_size w b in omega (arith, h, k, l, m)
  expr_size w (array_expr items) s = let h = items_size w items s no_item in omega (arith, h)
  expr_size w (join_expr parts) s = let h = exprs_size w parts s in let k = join_size parts (codes w parts) in omega (arith, h, k)
  expr_size w (neg_expr a) s = let h = expr_size w a s in omega (arith, h)
  expr_size w (not_expr a) s = let h = expr_size w a s in omega (arith, h)
  expr_size w (arith_expr sign a b) s =
      let h = expr_size w a (left (expr_fits a) (expr_fits b) s) in let k = expr_size w b (right (expr_fits a) (expr_fits b) s) in
      let l = left_both w.functions (calls_in a) (calls_in b) in omega (arith, h, k, l)
  expr_size w (compare_expr sign a b) s =
      let h = expr_size w a (left (expr_fits a) (expr_fits b) s) in let k = expr_size w b (right (expr_fits a) (expr_fits b) s) in
      let l = left_both w.functions (calls_in a) (calls_in b) in omega (arith, h, k, l)
  expr_size w (and_expr a b) s =
      let h = expr_size w a (left (expr_fits a) (expr_fits b) s) in let k = expr_size w b (right (expr_fits a) (expr_fits b) s) in
      let l = left_both w.functions (calls_in a) (calls_in b) in omega (arith, h, k, l)
  expr_size w (or_expr a b) s =
      let h = expr_size w a (left (expr_fits a) (expr_fits b) s) in let k = expr_size w b (right (expr_fits a) (expr_fits b) s) in
      let l = left_both w.functions (calls_in a) (calls_in b) in omega (arith, h, k, l)
  expr_size w (coalesce_expr a b) s =
      let h = expr_size w a (left (expr_fits a) (expr_fits b) s) in let k = expr_size w b (right (expr_fits a) (expr_fits b) s) in
      let l = left_both w.functions (calls_in a) (calls_in b) in omega (arith, h, k, l)
  expr_size w (choice_expr c no_expr b) s =
      let h = expr_size w c (left (expr_fits c) (expr_fits b) s) in let k = expr_size w b (right (expr_fits c) (expr_fits b) s) in
      let l = left_both w.functions (calls_in c) (calls_in b) in omega (arith, h, k, l)
  expr_size w (choice_expr c (some_expr a) b) s =
      let s1 = right (expr_fits c) (expr_fits a && expr_fits b) s in
      let h = expr_size w c (left (expr_fits c) (expr_fits a && expr_fits b) s) in
      let k = expr_size w a (left (expr_fits a) (expr_fits b) s1) in let n = expr_size w b (right (expr_fits a) (expr_fits b) s1) in
      let l = left_both w.functions (calls_in c) (calls_in a ++ calls_in b) in let m = left_both w.functions (calls_in a) (calls_in b) in omega (arith, h, k, n, l, m)
  expr_size w (isset_expr parts) s = let h = exprs_size w parts (right (all_places parts) (exprs_fit parts) s) in omega (arith, h)
  expr_size w (empty_expr a) s = let h = expr_size w a (right (is_place a) (expr_fits a) s) in omega (arith, h)
  expr_size w (assign_expr x path e) s =
      let s1 = right (keyed_before_last path) (path_fits path && expr_fits e) (right (is_writable x) (keyed_before_last path && (path_fits path && expr_fits e)) s) in
      let h = path_size w path (left (path_fits path) (expr_fits e) s1) in let k = expr_size w e (right (path_fits path) (expr_fits e) s1) in
      let l = left_both w.functions (path_calls path) (calls_in e) in omega (arith, h, k, l)
  expr_size w (update_expr sign x path e) s =
      let s1 = right (is_writable x) (all_keyed path && (path_fits path && expr_fits e)) s in
      let s2 = right (all_keyed path) (path_fits path && expr_fits e) s1 in
      let h = keyed_size w path (left (path_fits path) (expr_fits e) s2) (left (all_keyed path) (path_fits path && expr_fits e) s1) in let k = expr_size w e (right (path_fits path) (expr_fits e) s2) in
      let l = left_both w.functions (path_calls path) (calls_in e) in
      let u = update_size sign (variable w x) (length_of_path path) (path_code w path) (code w e) in omega (arith, h, k, l, u)
  expr_size w (step_expr x up before) s = let h = step_size (variable w x) up before in omega (arith, h)
  expr_size w (call_expr name args) s =
      let h = exprs_size w args s in
      let k = call_size w.functions (codes w args) name args (builtin_named name) (function_in 1 w.functions name) refl refl in
      let l : left_out_of (builtin_named name) (function_named w.functions name) (slots_asked args) ≡ left_out_of (builtin_named name) (function_named w.functions name) (number_of args) = ap (left_out_of (builtin_named name) (function_named w.functions name)) (same_number args) in
      omega (arith, h, k, l)

  exprs_size : (w : Scope) (es : PlainExprs) → exprs_fit es ≡ true → (codes w es).size ≤ 8 * exprs_nodes es + 2 * left_out w.functions (part_calls es)
  exprs_size w no_exprs s = omega arith
  exprs_size w (more_exprs e es) s =
      let h = expr_size w e (left (expr_fits e) (exprs_fit es) s) in let k = exprs_size w es (right (expr_fits e) (exprs_fit es) s) in
      let l = left_both w.functions (calls_in e) (part_calls es) in omega (arith, h, k, l)

  maybe_size : (w : Scope) (m : MaybeExpr) → maybe_fits m ≡ true → (maybe_key w m).size ≤ 8 * maybe_nodes m + 2 * left_out w.functions (maybe_calls m)
  maybe_size w no_expr s = omega arith
  maybe_size w (some_expr e) s = let h = expr_size w e s in let k = key_size w e in omega (arith, h, k)

  items_size : (w : Scope) (is : PlainItems) → items_fit is ≡ true → (begun : Code Begun) → (items_code w is begun).size ≤ begun.size + 8 * items_nodes is + 2 * left_out w.functions (item_calls is)
  items_size w no_items s begun = omega arith
  items_size w (more_items m e is) s begun =
      let s1 = right (maybe_fits m) (expr_fits e && items_fit is) s in
      let h = maybe_size w m (left (maybe_fits m) (expr_fits e && items_fit is) s) in
      let k = expr_size w e (left (expr_fits e) (items_fit is) s1) in let n = items_size w is (right (expr_fits e) (items_fit is) s1) (one_item begun (both (maybe_key w m) (code w e) (λ key x. (key, x)))) in
      let l = left_both w.functions (maybe_calls m) (calls_in e ++ item_calls is) in let o = left_both w.functions (calls_in e) (item_calls is) in omega (arith, h, k, n, l, o)

  path_size : (w : Scope) (ks : PlainPath) → path_fits ks ≡ true → (path_code w ks).size ≤ 8 * path_nodes ks + 2 * left_out w.functions (path_calls ks)
  path_size w no_keys s = omega arith
  path_size w (more_keys m ks) s =
      let h = maybe_size w m (left (maybe_fits m) (path_fits ks) s) in let k = path_size w ks (right (maybe_fits m) (path_fits ks) s) in
      let l = left_both w.functions (maybe_calls m) (path_calls ks) in omega (arith, h, k, l)

  -- with one point more for each key
  keyed_size : (w : Scope) (ks : PlainPath) → path_fits ks ≡ true → all_keyed ks ≡ true → (path_code w ks).size + length_of_path ks ≤ 8 * path_nodes ks + 2 * left_out w.functions (path_calls ks)
  keyed_size w no_keys s t = omega arith
  keyed_size w (more_keys no_expr ks) s t = absurd cc
  keyed_size w (more_keys (some_expr e) ks) s t =
      let h = expr_size w e (left (expr_fits e) (path_fits ks) s) in let k = keyed_size w ks (right (expr_fits e) (path_fits ks) s) t in
      let n = key_size w e in let l = left_both w.functions (calls_in e) (path_calls ks) in omega (arith, h, k, n, l)

pair_few : (key : Option ℕ) → pair_size key ≤ 2
pair_few None = omega arith
pair_few (Some key) = omega arith

echo_size : (w : Scope) (es : PlainExprs) → exprs_fit es ≡ true → (echo_block w es).size ≤ 8 * exprs_nodes es + 2 * left_out w.functions (part_calls es)
unfolding echo_block nodes collected own_call expr_fits
echo_size w no_exprs s = omega arith
echo_size w (more_exprs e es) s =
    let h = expr_size w e (left (expr_fits e) (exprs_fit es) s) in let k = echo_size w es (right (expr_fits e) (exprs_fit es) s) in
    let l = left_both w.functions (calls_in e) (part_calls es) in omega (arith, h, k, l)

test_size : (w : Scope) (m : MaybeExpr) → maybe_fits m ≡ true → (test_code w m).size ≤ 8 * maybe_nodes m + 2 * left_out w.functions (maybe_calls m)
unfolding test_code nodes collected own_call expr_fits
test_size w no_expr s = omega arith
test_size w (some_expr e) s = let h = expr_size w e s in omega (arith, h)

return_size : (w : Scope) (m : MaybeExpr) → maybe_fits m ≡ true → (return_block w m).size ≤ 2 + 8 * maybe_nodes m + 2 * left_out w.functions (maybe_calls m)
unfolding return_block nodes collected own_call expr_fits
return_size w no_expr s = omega arith
return_size w (some_expr e) s = let h = expr_size w e s in omega (arith, h)

quit_size : (w : Scope) (m : MaybeExpr) → maybe_fits m ≡ true → (quit_block w m).size ≤ 2 + 8 * maybe_nodes m + 2 * left_out w.functions (maybe_calls m)
unfolding quit_block nodes collected own_call expr_fits
quit_size w no_expr s = omega arith
quit_size w (some_expr e) s = let h = expr_size w e s in omega (arith, h)

reached_size : (on : Bool) (b : Block) → (reached on b).size ≤ b.size
reached_size true b = omega arith
reached_size false b = omega arith

arm_size : (on : Bool) (test : Code ℕ) (one other : Block) → (arm on test one other).size ≤ test.size + 1 + one.size + 1 + other.size
arm_size true test one other = omega arith
arm_size false test one other = omega arith

mutual
  unfolding stmt_block stmt_nodes collected_of own_call stmt_fits

  stmt_size : (w : Scope) (i f : Bool) (st : PlainStmt) → stmt_fits i f st ≡ true → (stmt_block w st).size ≤ 8 * stmt_nodes st + 2 * left_out w.functions (calls_of st)
  stmt_size w i f (inline_stmt bytes) s = omega arith
  stmt_size w i f (echo_stmt es) s = let h = echo_size w es s in omega (arith, h)
  stmt_size w i f (run_stmt e) s = let h = expr_size w e s in omega (arith, h)
  stmt_size w i f (if_stmt arms ss) s =
      let g : (arms_block w arms (block w ss)).size ≤ 8 * arms_nodes arms + 2 * left_out w.functions (arm_calls arms) + (block w ss).size = arms_size w i f arms (left (arms_fit i f arms) (stmts_fit i f ss) s) (block w ss) in
      let k = stmts_size w i f ss (right (arms_fit i f arms) (stmts_fit i f ss) s) in
      let l = left_both w.functions (arm_calls arms) (statement_calls ss) in omega (arith, g, k, l)
  stmt_size w i f (while_stmt e ss) s =
      let h = expr_size w e (left (expr_fits e) (stmts_fit true f ss) s) in let k = stmts_size w true f ss (right (expr_fits e) (stmts_fit true f ss) s) in
      let l = left_both w.functions (calls_in e) (statement_calls ss) in omega (arith, h, k, l)
  stmt_size w i f (do_while_stmt ss e) s =
      let h = stmts_size w true f ss (left (stmts_fit true f ss) (expr_fits e) s) in let k = expr_size w e (right (stmts_fit true f ss) (expr_fits e) s) in
      let l = left_both w.functions (statement_calls ss) (calls_in e) in omega (arith, h, k, l)
  stmt_size w i f (for_stmt begin e next ss) s =
      let s1 = right (exprs_fit begin) (maybe_fits e && (exprs_fit next && stmts_fit true f ss)) s in
      let s2 = right (maybe_fits e) (exprs_fit next && stmts_fit true f ss) s1 in
      let h = exprs_size w begin (left (exprs_fit begin) (maybe_fits e && (exprs_fit next && stmts_fit true f ss)) s) in
      let k = test_size w e (left (maybe_fits e) (exprs_fit next && stmts_fit true f ss) s1) in
      let n = exprs_size w next (left (exprs_fit next) (stmts_fit true f ss) s2) in let o = stmts_size w true f ss (right (exprs_fit next) (stmts_fit true f ss) s2) in
      let l = left_both w.functions (part_calls begin) (maybe_calls e ++ (part_calls next ++ statement_calls ss)) in
      let m = left_both w.functions (maybe_calls e) (part_calls next ++ statement_calls ss) in let q = left_both w.functions (part_calls next) (statement_calls ss) in
      omega (arith, h, k, n, o, l, m, q)
  stmt_size w i f (each_stmt e key x ss) s =
      let s1 = right (maybe_writable key) (is_writable x && stmts_fit true f ss) (right (expr_fits e) (maybe_writable key && (is_writable x && stmts_fit true f ss)) s) in
      let h = expr_size w e (left (expr_fits e) (maybe_writable key && (is_writable x && stmts_fit true f ss)) s) in let k = stmts_size w true f ss (right (is_writable x) (stmts_fit true f ss) s1) in
      let keys : List PlainCall = key_collected own_call key in
      let l = left_both w.functions (calls_in e) (keys ++ statement_calls ss) in let m = left_both w.functions keys (statement_calls ss) in
      let p = pair_few (key_variable w key) in omega (arith, h, k, l, m, p)
  stmt_size w i f break_stmt s = omega arith
  stmt_size w i f continue_stmt s = omega arith
  stmt_size w i f (return_stmt e) s = let h = return_size w e (right f (maybe_fits e) s) in omega (arith, h)
  stmt_size w i f (include_stmt path) s = omega arith
  stmt_size w i f (quit_stmt e) s = let h = quit_size w e s in omega (arith, h)

  stmts_size : (w : Scope) (i f : Bool) (ss : PlainStmts) → stmts_fit i f ss ≡ true → (block w ss).size ≤ 8 * stmts_nodes ss + 2 * left_out w.functions (statement_calls ss)
  stmts_size w i f no_stmts s = omega arith
  stmts_size w i f (more_stmts st ss) s =
      let h = stmt_size w i f st (left (stmt_fits i f st) (stmts_fit i f ss) s) in let k = stmts_size w i f ss (right (stmt_fits i f st) (stmts_fit i f ss) s) in
      let l = left_both w.functions (calls_of st) (statement_calls ss) in let r = reached_size (completes st) (block w ss) in omega (arith, h, k, l, r)

  arms_size : (w : Scope) (i f : Bool) (arms : PlainArms) → arms_fit i f arms ≡ true → (other : Block) → (arms_block w arms other).size ≤ 8 * arms_nodes arms + 2 * left_out w.functions (arm_calls arms) + other.size
  arms_size w i f no_arms s other = omega arith
  arms_size w i f (more_arms e ss arms) s other =
      let s1 = right (expr_fits e) (stmts_fit i f ss && arms_fit i f arms) s in
      let h = expr_size w e (left (expr_fits e) (stmts_fit i f ss && arms_fit i f arms) s) in
      let k = stmts_size w i f ss (left (stmts_fit i f ss) (arms_fit i f arms) s1) in let n = arms_size w i f arms (right (stmts_fit i f ss) (arms_fit i f arms) s1) other in
      let l = left_both w.functions (calls_in e) (statement_calls ss ++ arm_calls arms) in let m = left_both w.functions (statement_calls ss) (arm_calls arms) in
      let r = arm_size (all_complete ss) (code w e) (block w ss) (arms_block w arms other) in omega (arith, h, k, n, l, m, r)

module _ (flow : PlainFlow) (table : List PlainFunction) (defaults : HaveDefaults table) (calls : (cost : ℕ) → CallsDo (world flow no_request false cost zero) table) where
  function_points : (i g : Bool) (f : PlainFunction) (p t : ℕ) → stmts_fit i g f.body_of ≡ true → length (flat_function table f p t).points_of ≤ 8 * stmts_nodes f.body_of + 2 + 2 * left_out table (statement_calls f.body_of)
  unfolding scope_of
  function_points i g f p t s =
      let h = stmts_size (scope_of table f t) i g f.body_of s in
      let e = function_long flow table defaults calls f p t in
      omega (arith, h, e)

  functions_points : (fs : List PlainFunction) (p t : ℕ) → functions_fit fs ≡ true → length (points_in (flat_functions table fs p t)) ≤ 8 * functions_nodes fs + 2 * length fs + 2 * left_out table (function_calls fs)
  unfolding flat_functions points_in bodies_collected
  functions_points [] p t s = omega arith
  functions_points (f ∷ fs) p t s =
      let s1 = right (params_fit f.params_of) (stmts_fit false true f.body_of && functions_fit fs) s in
      let first = flat_function table f p t in
      let rest = flat_functions table fs (p + length first.points_of) (t + first.slots_of) in
      let h = function_points false true f p t (left (stmts_fit false true f.body_of) (functions_fit fs) s1) in
      let k = functions_points fs (p + length first.points_of) (t + first.slots_of) (right (stmts_fit false true f.body_of) (functions_fit fs) s1) in
      let l = left_both table (statement_calls f.body_of) (function_calls fs) in
      omega (arith, h, k, l, length-append first.points_of (points_in rest))

pub points_few : (program : PlainProgram) → IsLawful program → length (points_in (flat program).functions_of) ≤ 8 * file_nodes (as_file program) + 4 * (1 + length program.functions_of) + 2 * left_out program.functions_of (calls_of_program program)
unfolding flat flat_functions points_in main_function calls_of_program
points_few program lawful =
    let table = program.functions_of in
    let defaults = have_defaults program lawful in
    let calls = program_calls program in
    let main = main_function program in
    let first = flat_function table main 0 0 in
    let rest = flat_functions table table (0 + length first.points_of) (0 + first.slots_of) in
    let s = lawful.fits in
    let h = function_points (flat program) table defaults calls false false main 0 0 (left (stmts_fit false false program.main_of) (functions_fit table) s) in
    let k = functions_points (flat program) table defaults calls table (0 + length first.points_of) (0 + first.slots_of) (right (stmts_fit false false program.main_of) (functions_fit table) s) in
    let l = left_both table (statement_calls program.main_of) (function_calls table) in
    omega (arith, h, k, l, length-append first.points_of (points_in rest))
