-- Loops: their conditions and bodies.
use Rattle.std.proofs.Common.{◌≡◌, ◌∙◌, ℕ, Bool, true, false, List, [], ◌∷◌, refl, ap, Some}
use Rattle.std.specs.Prelude.{Option, ◌&&◌, if◌then◌else◌, max}
use Rattle.script_grammar.specs.Expressions.{ExprForm, ListForm, expr_tree, list_tree}
use Rattle.script_grammar.specs.Statements.{MaybeForm, maybe_tree}
use Rattle.php_syntax.specs.Trees.{PlainExpr, MaybeExpr, PlainExprs, PlainStmts, while_stmt, do_while_stmt, for_stmt, each_stmt}
use Rattle.script_grammar.specs.Rules.{expr_fits, maybe_writable, is_writable, stmt_fits, stmts_fit}
use Rattle.php_syntax.specs.Height.{height, exprs_height, maybe_height, stmt_height, stmts_height}
use Rattle.expr_machine.specs.Values.{PlainValue, value_of_tree, take_values, gather_exprs}
use Rattle.stmt_machine.specs.declared.frame.Loop.TheVariants as loop
use Rattle.stmt_machine.specs.Actions.{StmtAction, open_action, loop_action, do_action}
use Rattle.stmt_machine.specs.Postfix.{value_actions, list_values_actions, maybe_value_actions, list_count, is_something}
use Rattle.stmt_machine.specs.Made.{Row, row_of, PlainBody, Functions, Made, on_some, put, while_node, do_node, each_node, for_node, maybe_value, with_values, apply_for, apply_stmt, execute_stmts}
use Rattle.expr_laws.proofs.Carry.{Goes, both, ends, begins, tested}
use Rattle.stmt_laws.proofs.TreeRows.{kept, put_stmt}
use Rattle.stmt_laws.proofs.States.{Premise, Header, body, made, value_done, list_values_done, maybe_value_done, open_done, pushed, maybe_pushed}
use Rattle.expr_laws.proofs.TreeRows.{exprs_values, exprs_gathered}
use Rattle.stmt_laws.proofs.Taken.{taken, list_length, maybe_values, maybe_taken, maybe_gathered}
use Rattle.stmt_laws.proofs.Nodes.{while_kept, do_kept, each_kept, for_kept}
use Rattle.stmt_laws.proofs.TreeSimple.{node_done, node_tested}
use Rattle.stmt_laws.proofs.TreeRuns.{Actions, StatementGoes, BodyGoes}

-- the body of a loop, from where it begins
pub opened : (f : Actions) (ss : PlainStmts) → BodyGoes f ss → (l g : Bool) (r : Row) (k : List StmtAction) (vs : List PlainValue) (bs : List PlainBody) (h : Header) (fs : Functions)
    → Goes (execute_stmts (open_action true ∷ f k) (made vs (body l g r ∷ bs) h fs)) (stmts_fit true g ss) (execute_stmts k (made vs (body true g (row_of ss) ∷ body l g r ∷ bs) h fs))
opened f ss go l g r k vs bs h fs = begins (open_done true l g r (f k) vs bs h fs) (go true g k vs (body l g r ∷ bs) h fs)

while_end : (e : PlainExpr) (ss : PlainStmts) (l g : Bool) (r : Row) (k : List StmtAction) (vs : List PlainValue) (bs : List PlainBody) (h : Header) (fs : Functions)
    → execute_stmts (loop_action loop.While ∷ k) (made (value_of_tree e ∷ vs) (body true g (row_of ss) ∷ body l g r ∷ bs) h fs) ≡ execute_stmts k (made vs (body l g (put_stmt (while_stmt e ss) r) ∷ bs) h fs)
unfolding execute_stmts apply_stmt stmt_height
while_end e ss l g r k vs bs h fs = node_done (while_node (value_of_tree e) (row_of ss)) (while_stmt e ss) (max (height e) (stmts_height ss)) l g r k vs bs h fs (while_kept e ss) refl

pub while_goes : Premise → (e : ExprForm) (f : Actions) (ss : PlainStmts) → BodyGoes f ss → StatementGoes (λ k. value_actions e (open_action true ∷ f (loop_action loop.While ∷ k))) (while_stmt (expr_tree e) ss)
unfolding stmt_fits
while_goes p e f ss go l g r k vs bs h fs =
    both (value_done p e (open_action true ∷ f (loop_action loop.While ∷ k)) vs (body l g r ∷ bs) h fs)
    (ends (opened f ss go l g r (loop_action loop.While ∷ k) (value_of_tree (expr_tree e) ∷ vs) bs h fs) (while_end (expr_tree e) ss l g r k vs bs h fs))

do_end : (e : PlainExpr) (ss : PlainStmts) (l g : Bool) (r : Row) (k : List StmtAction) (vs : List PlainValue) (bs : List PlainBody) (h : Header) (fs : Functions)
    → execute_stmts (do_action ∷ k) (made (value_of_tree e ∷ vs) (body true g (row_of ss) ∷ body l g r ∷ bs) h fs) ≡ execute_stmts k (made vs (body l g (put_stmt (do_while_stmt ss e) r) ∷ bs) h fs)
unfolding execute_stmts apply_stmt stmt_height
do_end e ss l g r k vs bs h fs = node_done (do_node (row_of ss) (value_of_tree e)) (do_while_stmt ss e) (max (stmts_height ss) (height e)) l g r k vs bs h fs (do_kept ss e) refl

pub do_goes : Premise → (e : ExprForm) (f : Actions) (ss : PlainStmts) → BodyGoes f ss → StatementGoes (λ k. open_action true ∷ f (value_actions e (do_action ∷ k))) (do_while_stmt ss (expr_tree e))
unfolding stmt_fits
do_goes p e f ss go l g r k vs bs h fs =
    both (opened f ss go l g r (value_actions e (do_action ∷ k)) vs bs h fs)
    (ends (value_done p e (do_action ∷ k) vs (body true g (row_of ss) ∷ body l g r ∷ bs) h fs) (do_end (expr_tree e) ss l g r k vs bs h fs))

each_end : (x : Option (List ℕ)) (y : List ℕ) (e : PlainExpr) (ss : PlainStmts) (l g : Bool) (r : Row) (k : List StmtAction) (vs : List PlainValue) (bs : List PlainBody) (h : Header) (fs : Functions)
    → Goes (execute_stmts (loop_action (loop.Each x y) ∷ k) (made (value_of_tree e ∷ vs) (body true g (row_of ss) ∷ body l g r ∷ bs) h fs)) (maybe_writable x && is_writable y) (execute_stmts k (made vs (body l g (put_stmt (each_stmt e x y ss) r) ∷ bs) h fs))
unfolding execute_stmts apply_stmt stmt_height
each_end x y e ss l g r k vs bs h fs = node_tested (maybe_writable x && is_writable y) (each_node (value_of_tree e) x y (row_of ss)) (each_stmt e x y ss) (max (height e) (stmts_height ss)) l g r k vs bs h fs (each_kept e x y ss) refl

names_first : (a b c d : Bool) → a && (d && (b && c)) ≡ a && (b && (c && d))
names_first false b c d = refl
names_first true true true true = refl
names_first true true true false = refl
names_first true true false true = refl
names_first true true false false = refl
names_first true false c true = refl
names_first true false c false = refl

pub each_goes : Premise → (e : ExprForm) (x : Option (List ℕ)) (y : List ℕ) (f : Actions) (ss : PlainStmts) → BodyGoes f ss
    → StatementGoes (λ k. value_actions e (open_action true ∷ f (loop_action (loop.Each x y) ∷ k))) (each_stmt (expr_tree e) x y ss)
unfolding stmt_fits
each_goes p e x y f ss go l g r k vs bs h fs =
    tested (names_first (expr_fits (expr_tree e)) (maybe_writable x) (is_writable y) (stmts_fit true g ss))
    (both (value_done p e (open_action true ∷ f (loop_action (loop.Each x y) ∷ k)) vs (body l g r ∷ bs) h fs)
    (both (opened f ss go l g r (loop_action (loop.Each x y) ∷ k) (value_of_tree (expr_tree e) ∷ vs) bs h fs) (each_end x y (expr_tree e) ss l g r k vs bs h fs)))

-- what the three rows of a `for` come to where they are taken off
for_taken : (n m : ℕ) (c : Bool) (begin : PlainExprs) (e : MaybeExpr) (next : PlainExprs) (row : Row) (m0 : Made) (vs ws us : List PlainValue)
    → take_values n [] m0.values ≡ Some (exprs_values next, ws) → take_values (if c then 1 else 0) [] ws ≡ Some (maybe_values e, us) → take_values m [] us ≡ Some (exprs_values begin, vs)
    → apply_for m c n row m0 ≡ put (for_node (gather_exprs (exprs_values begin)) (maybe_value (maybe_values e)) (gather_exprs (exprs_values next)) row) (with_values vs m0)
for_taken n m c begin e next row m0 vs ws us i j w = rw (i, j, w) refl

for_gathered : (begin : PlainExprs) (e : MaybeExpr) (next : PlainExprs) (ss : PlainStmts)
    → for_node (gather_exprs (exprs_values begin)) (maybe_value (maybe_values e)) (gather_exprs (exprs_values next)) (row_of ss)
    ≡ kept (for_stmt begin e next ss) (max (exprs_height begin) (max (maybe_height e) (max (exprs_height next) (stmts_height ss))))
for_gathered begin e next ss = rw (exprs_gathered begin, maybe_gathered e, exprs_gathered next) (for_kept begin e next ss)

for_end : (begin : ListForm) (e : MaybeForm) (next : ListForm) (ss : PlainStmts) (l g : Bool) (r : Row) (k : List StmtAction) (vs : List PlainValue) (bs : List PlainBody) (h : Header) (fs : Functions)
    → execute_stmts (loop_action (loop.For (list_count begin) (is_something e) (list_count next)) ∷ k) (made (pushed (list_tree next) (maybe_pushed (maybe_tree e) (pushed (list_tree begin) vs))) (body true g (row_of ss) ∷ body l g r ∷ bs) h fs)
    ≡ execute_stmts k (made vs (body l g (put_stmt (for_stmt (list_tree begin) (maybe_tree e) (list_tree next) ss) r) ∷ bs) h fs)
unfolding execute_stmts apply_stmt stmt_height
for_end begin e next ss l g r k vs bs h fs =
    let ws = pushed (list_tree begin) vs in
    let us = maybe_pushed (maybe_tree e) ws in
    ap (λ o. on_some o (execute_stmts k)) (for_taken (list_count next) (list_count begin) (is_something e) (list_tree begin) (maybe_tree e) (list_tree next) (row_of ss) (made (pushed (list_tree next) us) (body l g r ∷ bs) h fs) vs us ws
    (taken (list_tree next) (list_count next) us (list_length next)) (maybe_taken e ws) (taken (list_tree begin) (list_count begin) vs (list_length begin)))
    ∙ node_done (for_node (gather_exprs (exprs_values (list_tree begin))) (maybe_value (maybe_values (maybe_tree e))) (gather_exprs (exprs_values (list_tree next))) (row_of ss))
    (for_stmt (list_tree begin) (maybe_tree e) (list_tree next) ss) (max (exprs_height (list_tree begin)) (max (maybe_height (maybe_tree e)) (max (exprs_height (list_tree next)) (stmts_height ss))))
    l g r k vs bs h fs (for_gathered (list_tree begin) (maybe_tree e) (list_tree next) ss) refl

pub for_goes : Premise → (begin : ListForm) (e : MaybeForm) (next : ListForm) (f : Actions) (ss : PlainStmts) → BodyGoes f ss
    → StatementGoes (λ k. list_values_actions begin (maybe_value_actions e (list_values_actions next (open_action true ∷ f (loop_action (loop.For (list_count begin) (is_something e) (list_count next)) ∷ k)))))
    (for_stmt (list_tree begin) (maybe_tree e) (list_tree next) ss)
unfolding stmt_fits
for_goes p begin e next f ss go l g r k vs bs h fs =
    let last = loop_action (loop.For (list_count begin) (is_something e) (list_count next)) ∷ k in
    let ws = pushed (list_tree begin) vs in
    let us = maybe_pushed (maybe_tree e) ws in
    both (list_values_done p begin (maybe_value_actions e (list_values_actions next (open_action true ∷ f last))) vs (body l g r ∷ bs) h fs)
    (both (maybe_value_done p e (list_values_actions next (open_action true ∷ f last)) ws (body l g r ∷ bs) h fs)
    (both (list_values_done p next (open_action true ∷ f last) us (body l g r ∷ bs) h fs)
    (ends (opened f ss go l g r last (pushed (list_tree next) us) bs h fs) (for_end begin e next ss l g r k vs bs h fs))))
