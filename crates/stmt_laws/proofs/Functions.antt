-- A function: its parameters and its body.
use Rattle.std.proofs.Common.{◌≡◌, ◌∙◌, ℕ, suc, ◌+◌, Bool, true, false, List, [], ◌∷◌, refl, ap, arith, add-one, Some, None}
use Rattle.std.specs.Prelude.{◌&&◌, if◌then◌else◌, nat_le, nat_lt, max}
use Rattle.script_grammar.specs.Statements.{params_trees, stmts_trees, FunctionForm, function_form, function_tree}
use Rattle.php_syntax.specs.Trees.{PlainParam, PlainStmts, no_stmts, PlainFunction}
use Rattle.script_grammar.specs.Rules.{stmts_fit, params_fit}
use Rattle.php_syntax.specs.Height.{stmts_height, params_height}
use Rattle.expr_machine.specs.Values.{PlainValue}
use Rattle.stmt_machine.specs.Actions.{StmtAction, function_action, function_body_action, function_end_action}
use Rattle.stmt_machine.specs.Postfix.{stmts_actions, params_actions, function_actions}
use Rattle.stmt_machine.specs.Made.{Row, row_of, PlainBody, Functions, add_function, function_of, put_function, apply_stmt, execute_stmts}
use Rattle.expr_laws.proofs.Carry.{Goes, both, ends, begins, tested}
use Rattle.expr_laws.proofs.NodeValues.{high_left, high_right, both_low, higher}
use Rattle.stmt_laws.proofs.TreeRows.{kept}
use Rattle.stmt_laws.proofs.States.{Premise, Header, body, made, empty}
use Rattle.stmt_laws.proofs.TreeRuns.{as_body}
use Rattle.stmt_laws.proofs.TreeStatements.{stmts_go}
use Rattle.stmt_laws.proofs.Params.{nothing_before, params_done}

abbrev pub height_of : PlainFunction → ℕ
height_of f = 1 + max (params_height f.params_of) (stmts_height f.body_of)

-- one more part whose own parts are at most so high
one_kept : {A : Type 0} (a : A) (h t : ℕ) (o : Bool) → nat_le t 200 ≡ true → nat_lt h 200 ≡ o → (if nat_lt h 200 then Some (a, max t (h + 1)) else None) ≡ kept a (max t (suc h))
one_kept a h t true i j = rw (j, both_low t (suc h) 200 i j) (ap (λ n. Some (a, max t n)) (add-one h))
one_kept a h t false i j = rw (j, high_right t (suc h) 200 j) refl

put_by : (header : List ℕ × List PlainParam) (ss : PlainStmts) (gs : List PlainFunction) (k t : ℕ) (p q : Bool) → nat_le k 200 ≡ p → nat_le t 200 ≡ q
    → put_function header (if p then Some (ss, k) else None) (if q then Some (gs, t) else None) ≡ kept (add_function gs (function_of header ss)) (max t (suc (max (params_height header.1) k)))
put_by header ss gs k t true true i j = one_kept (add_function gs (function_of header ss)) (max (params_height header.1) k) t (nat_lt (max (params_height header.1) k) 200) j refl
put_by header ss gs k t true false i j = rw (high_left t (suc (max (params_height header.1) k)) 200 j) refl
put_by header ss gs k t false q i j =
    rw (high_right t (suc (max (params_height header.1) k)) 200 (higher (max (params_height header.1) k) (suc (max (params_height header.1) k)) 200 (omega arith) (high_right (params_height header.1) k 200 i))) refl

-- functions of which the highest is so high, and one more
function_put : (header : List ℕ × List PlainParam) (ss : PlainStmts) (gs : List PlainFunction) (t : ℕ)
    → put_function header (row_of ss) (kept gs t) ≡ kept (add_function gs (function_of header ss)) (max t (height_of (function_of header ss)))
function_put header ss gs t =
    put_by header ss gs (stmts_height ss) t (nat_le (stmts_height ss) 200) (nat_le t 200) refl refl
    ∙ ap (λ h. kept (add_function gs (function_of header ss)) (max t h)) (omega arith)

function_begins : (f : List ℕ) (k : List StmtAction) (vs : List PlainValue) (bs : List PlainBody) (h : Header) (fs : Functions)
    → execute_stmts (function_action f ∷ k) (made vs bs h fs) ≡ execute_stmts k (made vs bs (Some (f, [])) fs)
unfolding execute_stmts apply_stmt
function_begins f k vs bs h fs = refl

body_begins : (k : List StmtAction) (vs : List PlainValue) (bs : List PlainBody) (h : Header) (fs : Functions)
    → execute_stmts (function_body_action ∷ k) (made vs bs h fs) ≡ execute_stmts k (made vs (body false true empty ∷ bs) h fs)
unfolding execute_stmts apply_stmt
body_begins k vs bs h fs = refl

function_ends : (header : List ℕ × List PlainParam) (r : Row) (k : List StmtAction) (vs : List PlainValue) (bs : List PlainBody) (fs : Functions)
    → execute_stmts (function_end_action ∷ k) (made vs (body false true r ∷ bs) (Some header) fs) ≡ execute_stmts k (made vs bs None (put_function header r fs))
unfolding execute_stmts apply_stmt
function_ends header r k vs bs fs = refl

pub function_done : Premise → (f : FunctionForm) (k : List StmtAction) (vs : List PlainValue) (bs : List PlainBody) (h : Header) (gs : List PlainFunction) (t : ℕ)
    → Goes (execute_stmts (function_actions f k) (made vs bs h (kept gs t))) (params_fit (function_tree f).params_of && stmts_fit false true (function_tree f).body_of)
    (execute_stmts k (made vs bs None (kept (add_function gs (function_tree f)) (max t (height_of (function_tree f))))))
function_done p (function_form f ps ss) k vs bs h gs t =
    let tt = stmts_trees ss no_stmts in
    let header : List ℕ × List PlainParam = (f, params_trees ps) in
    begins (function_begins f (params_actions ps (function_body_action ∷ stmts_actions ss (function_end_action ∷ k))) vs bs h (kept gs t))
    (both (tested (ap (λ b. b && params_fit (params_trees ps)) (nothing_before (params_trees ps))) (params_done ps f [] (function_body_action ∷ stmts_actions ss (function_end_action ∷ k)) vs bs (kept gs t)))
    (begins (body_begins (stmts_actions ss (function_end_action ∷ k)) vs bs (Some header) (kept gs t))
    (ends (as_body (stmts_actions ss) (stmts_trees ss) (stmts_go p ss) false true (function_end_action ∷ k) vs bs (Some header) (kept gs t))
    (function_ends header (row_of tt) k vs bs (kept gs t) ∙ ap (λ fs. execute_stmts k (made vs bs None fs)) (function_put header tt gs t)))))
