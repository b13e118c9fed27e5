-- Statements of one part: texts, values and jumps.
use Rattle.std.proofs.Common.{◌≡◌, ◌∙◌, ℕ, ◌+◌, Bool, true, false, List, [], ◌∷◌, refl, ap, arith, Some, None}
use Rattle.std.specs.Prelude.{◌&&◌, if◌then◌else◌}
use Rattle.script_grammar.specs.Expressions.{ExprForm, MoreExprsForm, expr_tree, more_exprs_tree}
use Rattle.script_grammar.specs.Statements.{MaybeForm, nothing_form, something_form, maybe_tree, is_status, printed, printed_tree}
use Rattle.php_syntax.specs.Trees.{PlainExpr, int_expr, neg_expr, no_expr, some_expr, PlainExprs, no_exprs, more_exprs, PlainStmt, inline_stmt, echo_stmt, run_stmt, break_stmt, continue_stmt, return_stmt, include_stmt, quit_stmt}
use Rattle.script_grammar.specs.Rules.{expr_fits, maybe_fits, stmt_fits, is_utf8}
use Rattle.php_syntax.specs.Height.{height, maybe_height, exprs_height, stmt_height}
use Rattle.expr_machine.specs.Postfix.{exprs_count}
use Rattle.expr_machine.specs.Values.{PlainValue, value_of_tree, take_values, gather_exprs}
use Rattle.stmt_machine.specs.Actions.{StmtAction, inline_action, echo_action, run_action, break_action, continue_action, return_action, include_action, exit_action}
use Rattle.stmt_machine.specs.Postfix.{value_actions, more_values_actions, maybe_value_actions, is_something}
use Rattle.stmt_machine.specs.Made.{Row, PlainBody, Functions, Node, Made, on_some, put, put_if, add_node, echo_node, run_node, return_node, quit_node, with_values, apply_stmt, execute_stmts}
use Rattle.expr_laws.proofs.Carry.{Goes, both, always, ends, tested}
use Rattle.stmt_laws.proofs.TreeRows.{kept, put_stmt, node_put}
use Rattle.stmt_laws.proofs.States.{Premise, Header, body, made, value_done, more_values_done, pushed}
use Rattle.expr_laws.proofs.TreeRows.{exprs_values, exprs_gathered}
use Rattle.stmt_laws.proofs.Taken.{taken, more_length}
use Rattle.stmt_laws.proofs.Nodes.{echo_kept, run_kept, return_kept, quit_kept}

-- the node of a statement put on a row
pub node_done : (n : Node) (s : PlainStmt) (height : ℕ) (l g : Bool) (r : Row) (k : List StmtAction) (vs : List PlainValue) (bs : List PlainBody) (h : Header) (fs : Functions)
    → n ≡ kept s height → stmt_height s ≡ 1 + height
    → on_some (put n (made vs (body l g r ∷ bs) h fs)) (execute_stmts k) ≡ execute_stmts k (made vs (body l g (put_stmt s r) ∷ bs) h fs)
node_done n s height l g r k vs bs h fs e i = ap (λ r. execute_stmts k (made vs (body l g r ∷ bs) h fs)) (ap (λ n. add_node n r) e ∙ node_put s height r i)

put_tested : (b : Bool) (n : Node) (m : Made) (k : List StmtAction) → on_some (put_if b n m) (execute_stmts k) ≡ (if b then on_some (put n m) (execute_stmts k) else None)
put_tested true n m k = refl
put_tested false n m k = refl

-- the same where a rule holds
pub node_tested : (b : Bool) (n : Node) (s : PlainStmt) (height : ℕ) (l g : Bool) (r : Row) (k : List StmtAction) (vs : List PlainValue) (bs : List PlainBody) (h : Header) (fs : Functions)
    → n ≡ kept s height → stmt_height s ≡ 1 + height
    → Goes (on_some (put_if b n (made vs (body l g r ∷ bs) h fs)) (execute_stmts k)) b (execute_stmts k (made vs (body l g (put_stmt s r) ∷ bs) h fs))
node_tested b n s height l g r k vs bs h fs e i = ends (record { is = put_tested b n (made vs (body l g r ∷ bs) h fs) k }) (node_done n s height l g r k vs bs h fs e i)

pub inline_done : (t : List ℕ) (l g : Bool) (r : Row) (k : List StmtAction) (vs : List PlainValue) (bs : List PlainBody) (h : Header) (fs : Functions)
    → Goes (execute_stmts (inline_action t ∷ k) (made vs (body l g r ∷ bs) h fs)) (stmt_fits l g (inline_stmt t)) (execute_stmts k (made vs (body l g (put_stmt (inline_stmt t) r) ∷ bs) h fs))
unfolding execute_stmts apply_stmt stmt_fits stmt_height
inline_done t l g r k vs bs h fs = always (node_done (Some (inline_stmt t, 0)) (inline_stmt t) 0 l g r k vs bs h fs refl refl)

echo_taken : (es : PlainExprs) (n : ℕ) (l g : Bool) (r : Row) (k : List StmtAction) (vs : List PlainValue) (bs : List PlainBody) (h : Header) (fs : Functions)
    → take_values n [] (pushed es vs) ≡ Some (exprs_values es, vs)
    → execute_stmts (echo_action n ∷ k) (made (pushed es vs) (body l g r ∷ bs) h fs) ≡ execute_stmts k (made vs (body l g (put_stmt (echo_stmt es) r) ∷ bs) h fs)
unfolding execute_stmts apply_stmt stmt_height
echo_taken es n l g r k vs bs h fs e =
    ap (λ o. on_some (on_some o (λ row. put (echo_node (gather_exprs row.0)) (with_values row.1 (made vs (body l g r ∷ bs) h fs)))) (execute_stmts k)) e
    ∙ node_done (echo_node (gather_exprs (exprs_values es))) (echo_stmt es) (exprs_height es) l g r k vs bs h fs (ap echo_node (exprs_gathered es) ∙ echo_kept es (exprs_height es)) refl

pub echo_done : Premise → (e : ExprForm) (es : MoreExprsForm) (l g : Bool) (r : Row) (k : List StmtAction) (vs : List PlainValue) (bs : List PlainBody) (h : Header) (fs : Functions)
    → let row = more_exprs (expr_tree e) (more_exprs_tree es) in
    Goes (execute_stmts (value_actions e (more_values_actions es (echo_action (exprs_count es + 1) ∷ k))) (made vs (body l g r ∷ bs) h fs)) (stmt_fits l g (echo_stmt row)) (execute_stmts k (made vs (body l g (put_stmt (echo_stmt row) r) ∷ bs) h fs))
unfolding expr_fits stmt_fits
echo_done p e es l g r k vs bs h fs =
    both (value_done p e (more_values_actions es (echo_action (exprs_count es + 1) ∷ k)) vs (body l g r ∷ bs) h fs)
    (ends (more_values_done p es (echo_action (exprs_count es + 1) ∷ k) (value_of_tree (expr_tree e) ∷ vs) (body l g r ∷ bs) h fs)
    (echo_taken (more_exprs (expr_tree e) (more_exprs_tree es)) (exprs_count es + 1) l g r k vs bs h fs
    (taken (more_exprs (expr_tree e) (more_exprs_tree es)) (exprs_count es + 1) vs (omega (arith, more_length es)))))

-- one value and true
one_and : (b : Bool) → b ≡ b && true
one_and true = refl
one_and false = refl

pub print_done : Premise → (e : ExprForm) (l g : Bool) (r : Row) (k : List StmtAction) (vs : List PlainValue) (bs : List PlainBody) (h : Header) (fs : Functions)
    → let row = more_exprs (expr_tree e) no_exprs in
    Goes (execute_stmts (value_actions e (echo_action 1 ∷ k)) (made vs (body l g r ∷ bs) h fs)) (stmt_fits l g (echo_stmt row)) (execute_stmts k (made vs (body l g (put_stmt (echo_stmt row) r) ∷ bs) h fs))
unfolding expr_fits stmt_fits
print_done p e l g r k vs bs h fs =
    tested (one_and (expr_fits (expr_tree e)))
    (ends (value_done p e (echo_action 1 ∷ k) vs (body l g r ∷ bs) h fs) (echo_taken (more_exprs (expr_tree e) no_exprs) 1 l g r k vs bs h fs refl))

run_alone : (e : PlainExpr) (l g : Bool) (r : Row) (k : List StmtAction) (vs : List PlainValue) (bs : List PlainBody) (h : Header) (fs : Functions)
    → execute_stmts (run_action ∷ k) (made (value_of_tree e ∷ vs) (body l g r ∷ bs) h fs) ≡ execute_stmts k (made vs (body l g (put_stmt (run_stmt e) r) ∷ bs) h fs)
unfolding execute_stmts apply_stmt stmt_height
run_alone e l g r k vs bs h fs = node_done (run_node (value_of_tree e)) (run_stmt e) (height e) l g r k vs bs h fs (run_kept e) refl

pub run_done : Premise → (e : ExprForm) (l g : Bool) (r : Row) (k : List StmtAction) (vs : List PlainValue) (bs : List PlainBody) (h : Header) (fs : Functions)
    → Goes (execute_stmts (value_actions e (run_action ∷ k)) (made vs (body l g r ∷ bs) h fs)) (stmt_fits l g (run_stmt (expr_tree e))) (execute_stmts k (made vs (body l g (put_stmt (run_stmt (expr_tree e)) r) ∷ bs) h fs))
unfolding stmt_fits
run_done p e l g r k vs bs h fs = ends (value_done p e (run_action ∷ k) vs (body l g r ∷ bs) h fs) (run_alone (expr_tree e) l g r k vs bs h fs)

pub break_done : (l g : Bool) (r : Row) (k : List StmtAction) (vs : List PlainValue) (bs : List PlainBody) (h : Header) (fs : Functions)
    → Goes (execute_stmts (break_action ∷ k) (made vs (body l g r ∷ bs) h fs)) (stmt_fits l g break_stmt) (execute_stmts k (made vs (body l g (put_stmt break_stmt r) ∷ bs) h fs))
unfolding execute_stmts apply_stmt stmt_fits stmt_height
break_done l g r k vs bs h fs = node_tested l (Some (break_stmt, 0)) break_stmt 0 l g r k vs bs h fs refl refl

pub continue_done : (l g : Bool) (r : Row) (k : List StmtAction) (vs : List PlainValue) (bs : List PlainBody) (h : Header) (fs : Functions)
    → Goes (execute_stmts (continue_action ∷ k) (made vs (body l g r ∷ bs) h fs)) (stmt_fits l g continue_stmt) (execute_stmts k (made vs (body l g (put_stmt continue_stmt r) ∷ bs) h fs))
unfolding execute_stmts apply_stmt stmt_fits stmt_height
continue_done l g r k vs bs h fs = node_tested l (Some (continue_stmt, 0)) continue_stmt 0 l g r k vs bs h fs refl refl

pub include_done : (t : List ℕ) (l g : Bool) (r : Row) (k : List StmtAction) (vs : List PlainValue) (bs : List PlainBody) (h : Header) (fs : Functions)
    → Goes (execute_stmts (include_action t ∷ k) (made vs (body l g r ∷ bs) h fs)) (stmt_fits l g (include_stmt t)) (execute_stmts k (made vs (body l g (put_stmt (include_stmt t) r) ∷ bs) h fs))
unfolding execute_stmts apply_stmt stmt_fits stmt_height
include_done t l g r k vs bs h fs = node_tested (is_utf8 t) (Some (include_stmt t, 0)) (include_stmt t) 0 l g r k vs bs h fs refl refl

return_alone : (e : PlainExpr) (l g : Bool) (r : Row) (k : List StmtAction) (vs : List PlainValue) (bs : List PlainBody) (h : Header) (fs : Functions)
    → Goes (execute_stmts (return_action true ∷ k) (made (value_of_tree e ∷ vs) (body l g r ∷ bs) h fs)) g (execute_stmts k (made vs (body l g (put_stmt (return_stmt (some_expr e)) r) ∷ bs) h fs))
unfolding execute_stmts apply_stmt stmt_height height
return_alone e l g r k vs bs h fs = node_tested g (return_node (value_of_tree e)) (return_stmt (some_expr e)) (height e) l g r k vs bs h fs (return_kept e) refl

return_nothing : (l g : Bool) (r : Row) (k : List StmtAction) (vs : List PlainValue) (bs : List PlainBody) (h : Header) (fs : Functions)
    → Goes (execute_stmts (return_action false ∷ k) (made vs (body l g r ∷ bs) h fs)) g (execute_stmts k (made vs (body l g (put_stmt (return_stmt no_expr) r) ∷ bs) h fs))
unfolding execute_stmts apply_stmt stmt_height height
return_nothing l g r k vs bs h fs = node_tested g (Some (return_stmt no_expr, 0)) (return_stmt no_expr) 0 l g r k vs bs h fs refl refl

other_order : (a b : Bool) → a && b ≡ b && a
other_order true true = refl
other_order true false = refl
other_order false true = refl
other_order false false = refl

pub return_done : Premise → (e : MaybeForm) (l g : Bool) (r : Row) (k : List StmtAction) (vs : List PlainValue) (bs : List PlainBody) (h : Header) (fs : Functions)
    → Goes (execute_stmts (maybe_value_actions e (return_action (is_something e) ∷ k)) (made vs (body l g r ∷ bs) h fs)) (stmt_fits l g (return_stmt (maybe_tree e))) (execute_stmts k (made vs (body l g (put_stmt (return_stmt (maybe_tree e)) r) ∷ bs) h fs))
unfolding expr_fits stmt_fits
return_done p nothing_form l g r k vs bs h fs = tested (one_and g) (return_nothing l g r k vs bs h fs)
return_done p (something_form e) l g r k vs bs h fs =
    tested (other_order (expr_fits (expr_tree e)) g) (both (value_done p e (return_action true ∷ k) vs (body l g r ∷ bs) h fs) (return_alone (expr_tree e) l g r k vs bs h fs))

-- `exit`, where the value is a status or is printed
quit_alone : (e : PlainExpr) (l g : Bool) (r : Row) (k : List StmtAction) (vs : List PlainValue) (bs : List PlainBody) (h : Header) (fs : Functions)
    → execute_stmts (exit_action true ∷ k) (made (value_of_tree e ∷ vs) (body l g r ∷ bs) h fs) ≡ execute_stmts k (made vs (body l g (put_stmt (quit_stmt (printed e)) r) ∷ bs) h fs)
unfolding execute_stmts apply_stmt stmt_height
quit_alone e l g r k vs bs h fs = node_done (quit_node (value_of_tree e)) (quit_stmt (printed e)) (maybe_height (printed e)) l g r k vs bs h fs (quit_kept e) refl

pub quit_nothing : (l g : Bool) (r : Row) (k : List StmtAction) (vs : List PlainValue) (bs : List PlainBody) (h : Header) (fs : Functions)
    → Goes (execute_stmts (exit_action false ∷ k) (made vs (body l g r ∷ bs) h fs)) (stmt_fits l g (quit_stmt no_expr)) (execute_stmts k (made vs (body l g (put_stmt (quit_stmt no_expr) r) ∷ bs) h fs))
unfolding execute_stmts apply_stmt expr_fits stmt_fits stmt_height height
quit_nothing l g r k vs bs h fs = always (node_done (Some (quit_stmt no_expr, 0)) (quit_stmt no_expr) 0 l g r k vs bs h fs refl refl)

status_fits : (e : PlainExpr) → is_status e ≡ true → expr_fits e ≡ true
unfolding expr_fits
status_fits (int_expr z) i = refl
status_fits (neg_expr (int_expr z)) i = refl
status_fits _ i = absurd cc

printed_fits : (e : PlainExpr) → expr_fits e ≡ maybe_fits (printed e)
unfolding expr_fits
printed_fits e = go (is_status e) refl
  where
    go : (b : Bool) → is_status e ≡ b → expr_fits e ≡ maybe_fits (if b then no_expr else some_expr e)
    go true i = status_fits e i
    go false i = refl

pub quit_done : Premise → (e : MaybeForm) (l g : Bool) (r : Row) (k : List StmtAction) (vs : List PlainValue) (bs : List PlainBody) (h : Header) (fs : Functions)
    → Goes (execute_stmts (maybe_value_actions e (exit_action (is_something e) ∷ k)) (made vs (body l g r ∷ bs) h fs)) (stmt_fits l g (quit_stmt (printed_tree e))) (execute_stmts k (made vs (body l g (put_stmt (quit_stmt (printed_tree e)) r) ∷ bs) h fs))
unfolding stmt_fits
quit_done p nothing_form l g r k vs bs h fs = quit_nothing l g r k vs bs h fs
quit_done p (something_form e) l g r k vs bs h fs =
    tested (printed_fits (expr_tree e)) (ends (value_done p e (exit_action true ∷ k) vs (body l g r ∷ bs) h fs) (quit_alone (expr_tree e) l g r k vs bs h fs))
