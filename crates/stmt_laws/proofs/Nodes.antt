-- The node of a statement is made of the values and rows of its parts.
use Rattle.std.proofs.Common.{◌≡◌, ℕ, Bool, true, false, List, refl, ap, Some, None}
use Rattle.std.specs.Prelude.{Option, if◌then◌else◌, nat_le, max}
use Rattle.php_syntax.specs.Trees.{PlainExpr, int_expr, neg_expr, MaybeExpr, no_expr, some_expr, PlainExprs, echo_stmt, run_stmt, if_stmt, while_stmt, do_while_stmt, for_stmt, each_stmt, return_stmt, quit_stmt, PlainStmts, PlainArms, more_arms}
use Rattle.script_grammar.specs.Statements.{is_status, printed}
use Rattle.script_grammar.specs.Rules.{is_place}
use Rattle.php_syntax.specs.Height.{height, exprs_height, maybe_height, stmts_height, arms_height}
use Rattle.expr_machine.specs.Values.{known_value, tall_value, value_of_tree}
use Rattle.stmt_machine.specs.Made.{row_of, add_arm, echo_node, run_node, return_node, quit_node, if_node, while_node, do_node, each_node, for_node}
use Rattle.expr_laws.proofs.NodeValues.{high_left, high_right, both_low}
use Rattle.stmt_laws.proofs.TreeRows.{kept}

pub echo_kept : (es : PlainExprs) (h : ℕ) → echo_node (kept es h) ≡ kept (echo_stmt es) h
echo_kept es h = go (nat_le h 200)
  where
    go : (q : Bool) → echo_node (if q then Some (es, h) else None) ≡ (if q then Some (echo_stmt es, h) else None)
    go true = refl
    go false = refl

pub run_kept : (e : PlainExpr) → run_node (value_of_tree e) ≡ kept (run_stmt e) (height e)
run_kept e = go (nat_le (height e) 200)
  where
    go : (q : Bool) → run_node (if q then known_value e (height e) else tall_value (is_place e)) ≡ (if q then Some (run_stmt e, height e) else None)
    go true = refl
    go false = refl

pub return_kept : (e : PlainExpr) → return_node (value_of_tree e) ≡ kept (return_stmt (some_expr e)) (height e)
return_kept e = go (nat_le (height e) 200)
  where
    go : (q : Bool) → return_node (if q then known_value e (height e) else tall_value (is_place e)) ≡ (if q then Some (return_stmt (some_expr e), height e) else None)
    go true = refl
    go false = refl

status_kept : (e : PlainExpr) → is_status e ≡ true → quit_node (value_of_tree e) ≡ kept (quit_stmt no_expr) 0
unfolding height
status_kept (int_expr z) i = refl
status_kept (neg_expr (int_expr z)) i = ap (λ b. if b then Some (quit_stmt no_expr, 0) else Some (quit_stmt (some_expr (neg_expr (int_expr z))), 2)) i
status_kept _ i = absurd cc

printed_kept : (e : PlainExpr) → is_status e ≡ false → quit_node (value_of_tree e) ≡ kept (quit_stmt (some_expr e)) (height e)
printed_kept e i = go (nat_le (height e) 200)
  where
    go : (q : Bool) → quit_node (if q then known_value e (height e) else tall_value (is_place e)) ≡ (if q then Some (quit_stmt (some_expr e), height e) else None)
    go true = ap (λ b. if b then Some (quit_stmt no_expr, 0) else Some (quit_stmt (some_expr e), height e)) i
    go false = refl

pub quit_kept : (e : PlainExpr) → quit_node (value_of_tree e) ≡ kept (quit_stmt (printed e)) (maybe_height (printed e))
unfolding height
quit_kept e = go (is_status e) refl
  where
    go : (b : Bool) → is_status e ≡ b → quit_node (value_of_tree e) ≡ kept (quit_stmt (if b then no_expr else some_expr e)) (maybe_height (if b then no_expr else some_expr e))
    go true i = status_kept e i
    go false i = printed_kept e i

while_by : (e : PlainExpr) (ss : PlainStmts) (h k : ℕ) (p q r : Bool) → nat_le h 200 ≡ p → nat_le k 200 ≡ q
    → while_node (if p then known_value e h else tall_value r) (if q then Some (ss, k) else None) ≡ kept (while_stmt e ss) (max h k)
while_by e ss h k true true r i j = rw (both_low h k 200 i j) refl
while_by e ss h k true false r i j = rw (high_right h k 200 j) refl
while_by e ss h k false q r i j = rw (high_left h k 200 i) refl

pub while_kept : (e : PlainExpr) (ss : PlainStmts) → while_node (value_of_tree e) (row_of ss) ≡ kept (while_stmt e ss) (max (height e) (stmts_height ss))
while_kept e ss = while_by e ss (height e) (stmts_height ss) (nat_le (height e) 200) (nat_le (stmts_height ss) 200) (is_place e) refl refl

do_by : (e : PlainExpr) (ss : PlainStmts) (h k : ℕ) (p q r : Bool) → nat_le h 200 ≡ p → nat_le k 200 ≡ q
    → do_node (if p then Some (ss, h) else None) (if q then known_value e k else tall_value r) ≡ kept (do_while_stmt ss e) (max h k)
do_by e ss h k true true r i j = rw (both_low h k 200 i j) refl
do_by e ss h k true false r i j = rw (high_right h k 200 j) refl
do_by e ss h k false q r i j = rw (high_left h k 200 i) refl

pub do_kept : (ss : PlainStmts) (e : PlainExpr) → do_node (row_of ss) (value_of_tree e) ≡ kept (do_while_stmt ss e) (max (stmts_height ss) (height e))
do_kept ss e = do_by e ss (stmts_height ss) (height e) (nat_le (stmts_height ss) 200) (nat_le (height e) 200) (is_place e) refl refl

each_by : (e : PlainExpr) (x : Option (List ℕ)) (y : List ℕ) (ss : PlainStmts) (h k : ℕ) (p q r : Bool) → nat_le h 200 ≡ p → nat_le k 200 ≡ q
    → each_node (if p then known_value e h else tall_value r) x y (if q then Some (ss, k) else None) ≡ kept (each_stmt e x y ss) (max h k)
each_by e x y ss h k true true r i j = rw (both_low h k 200 i j) refl
each_by e x y ss h k true false r i j = rw (high_right h k 200 j) refl
each_by e x y ss h k false q r i j = rw (high_left h k 200 i) refl

pub each_kept : (e : PlainExpr) (x : Option (List ℕ)) (y : List ℕ) (ss : PlainStmts)
    → each_node (value_of_tree e) x y (row_of ss) ≡ kept (each_stmt e x y ss) (max (height e) (stmts_height ss))
each_kept e x y ss = each_by e x y ss (height e) (stmts_height ss) (nat_le (height e) 200) (nat_le (stmts_height ss) 200) (is_place e) refl refl

if_by : (a : PlainArms) (ss : PlainStmts) (h k : ℕ) (p q : Bool) → nat_le h 200 ≡ p → nat_le k 200 ≡ q
    → if_node (if p then Some (a, h) else None) (if q then Some (ss, k) else None) ≡ kept (if_stmt a ss) (max h k)
if_by a ss h k true true i j = rw (both_low h k 200 i j) refl
if_by a ss h k true false i j = rw (high_right h k 200 j) refl
if_by a ss h k false q i j = rw (high_left h k 200 i) refl

pub if_kept : (a : PlainArms) (ss : PlainStmts) → if_node (kept a (arms_height a)) (row_of ss) ≡ kept (if_stmt a ss) (max (arms_height a) (stmts_height ss))
if_kept a ss = if_by a ss (arms_height a) (stmts_height ss) (nat_le (arms_height a) 200) (nat_le (stmts_height ss) 200) refl refl

arm_by : (e : PlainExpr) (ss : PlainStmts) (a : PlainArms) (h k t : ℕ) (p q s r : Bool) → nat_le h 200 ≡ p → nat_le k 200 ≡ q → nat_le t 200 ≡ s
    → add_arm (if p then known_value e h else tall_value r) (if q then Some (ss, k) else None) (if s then Some (a, t) else None) ≡ kept (more_arms e ss a) (max h (max k t))
arm_by e ss a h k t true true true r i j o = rw (both_low h (max k t) 200 i (both_low k t 200 j o)) refl
arm_by e ss a h k t true true false r i j o = rw (high_right h (max k t) 200 (high_right k t 200 o)) refl
arm_by e ss a h k t true false s r i j o = rw (high_right h (max k t) 200 (high_left k t 200 j)) refl
arm_by e ss a h k t false q s r i j o = rw (high_left h (max k t) 200 i) refl

pub arm_kept : (e : PlainExpr) (ss : PlainStmts) (a : PlainArms)
    → add_arm (value_of_tree e) (row_of ss) (kept a (arms_height a)) ≡ kept (more_arms e ss a) (max (height e) (max (stmts_height ss) (arms_height a)))
arm_kept e ss a = arm_by e ss a (height e) (stmts_height ss) (arms_height a) (nat_le (height e) 200) (nat_le (stmts_height ss) 200) (nat_le (arms_height a) 200) (is_place e) refl refl refl

for_by : (begin : PlainExprs) (e : MaybeExpr) (next : PlainExprs) (ss : PlainStmts) (h k t u : ℕ) (p q s r : Bool)
    → nat_le h 200 ≡ p → nat_le k 200 ≡ q → nat_le t 200 ≡ s → nat_le u 200 ≡ r
    → for_node (if p then Some (begin, h) else None) (if q then Some (e, k) else None) (if s then Some (next, t) else None) (if r then Some (ss, u) else None)
    ≡ kept (for_stmt begin e next ss) (max h (max k (max t u)))
for_by begin e next ss h k t u true true true true i j o w = rw (both_low h (max k (max t u)) 200 i (both_low k (max t u) 200 j (both_low t u 200 o w))) refl
for_by begin e next ss h k t u true true true false i j o w = rw (high_right h (max k (max t u)) 200 (high_right k (max t u) 200 (high_right t u 200 w))) refl
for_by begin e next ss h k t u true true false r i j o w = rw (high_right h (max k (max t u)) 200 (high_right k (max t u) 200 (high_left t u 200 o))) refl
for_by begin e next ss h k t u true false s r i j o w = rw (high_right h (max k (max t u)) 200 (high_left k (max t u) 200 j)) refl
for_by begin e next ss h k t u false q s r i j o w = rw (high_left h (max k (max t u)) 200 i) refl

pub for_kept : (begin : PlainExprs) (e : MaybeExpr) (next : PlainExprs) (ss : PlainStmts)
    → for_node (kept begin (exprs_height begin)) (kept e (maybe_height e)) (kept next (exprs_height next)) (row_of ss)
    ≡ kept (for_stmt begin e next ss) (max (exprs_height begin) (max (maybe_height e) (max (exprs_height next) (stmts_height ss))))
for_kept begin e next ss = for_by begin e next ss (exprs_height begin) (maybe_height e) (exprs_height next) (stmts_height ss)
    (nat_le (exprs_height begin) 200) (nat_le (maybe_height e) 200) (nat_le (exprs_height next) 200) (nat_le (stmts_height ss) 200) refl refl refl refl
