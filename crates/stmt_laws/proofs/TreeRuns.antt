-- What runs over statements do, with what stands behind them.
use Rattle.std.proofs.Common.{Bool, List, ◌∷◌, refl, ap}
use Rattle.php_syntax.specs.Trees.{PlainStmt, PlainStmts, no_stmts, more_stmts}
use Rattle.script_grammar.specs.Rules.{stmt_fits, stmts_fit}
use Rattle.expr_machine.specs.Values.{PlainValue}
use Rattle.stmt_machine.specs.Actions.{StmtAction}
use Rattle.stmt_machine.specs.Made.{Row, row_of, PlainBody, Functions, execute_stmts}
use Rattle.expr_laws.proofs.Carry.{Goes, both, always, ends}
use Rattle.stmt_laws.proofs.TreeRows.{put_stmt, put_stmts, all_put}
use Rattle.stmt_laws.proofs.States.{Left, Header, body, made, empty}

abbrev pub Actions : Type 0
Actions = List StmtAction → List StmtAction

-- actions put a statement on the row of the innermost body
abbrev pub StatementGoes : Actions → PlainStmt → Type 0
StatementGoes f s = (l g : Bool) (r : Row) (k : List StmtAction) (vs : List PlainValue) (bs : List PlainBody) (h : Header) (fs : Functions)
    → Goes (execute_stmts (f k) (made vs (body l g r ∷ bs) h fs)) (stmt_fits l g s) (execute_stmts k (made vs (body l g (put_stmt s r) ∷ bs) h fs))

-- actions make the statements of a body that was empty
abbrev pub BodyGoes : Actions → PlainStmts → Type 0
BodyGoes f ss = (l g : Bool) (k : List StmtAction) (vs : List PlainValue) (bs : List PlainBody) (h : Header) (fs : Functions)
    → Goes (execute_stmts (f k) (made vs (body l g empty ∷ bs) h fs)) (stmts_fit l g ss) (execute_stmts k (made vs (body l g (row_of ss) ∷ bs) h fs))

-- from any row on, a run comes to what is said of that row with some statements
pub record Runs (l g : Bool) (ss : PlainStmts) (x finish : Row → Left) : Type 0 where
  pub is : (r : Row) → Goes (x r) (stmts_fit l g ss) (finish (put_stmts ss r))

-- actions put statements before those that follow
abbrev pub StatementsGo : Actions → (PlainStmts → PlainStmts) → Type 0
StatementsGo f trees = (ss : PlainStmts) (finish : Row → Left) (l g : Bool) (k : List StmtAction) (vs : List PlainValue) (bs : List PlainBody) (h : Header) (fs : Functions)
    → Runs l g ss (λ r. execute_stmts k (made vs (body l g r ∷ bs) h fs)) finish → Runs l g (trees ss) (λ r. execute_stmts (f k) (made vs (body l g r ∷ bs) h fs)) finish

pub one_more : (f : Actions) (s : PlainStmt) → StatementGoes f s → StatementsGo f (more_stmts s)
unfolding stmts_fit
one_more f s go ss finish l g k vs bs h fs q = record { is = λ r. both (go l g r k vs bs h fs) (q.is (put_stmt s r)) }

pub as_body : (f : Actions) (trees : PlainStmts → PlainStmts) → StatementsGo f trees → BodyGoes f (trees no_stmts)
unfolding stmts_fit
as_body f trees go l g k vs bs h fs =
    ends ((go no_stmts (λ r. execute_stmts k (made vs (body l g r ∷ bs) h fs)) l g k vs bs h fs (record { is = λ r. always refl })).is empty)
    (ap (λ r. execute_stmts k (made vs (body l g r ∷ bs) h fs)) (all_put (trees no_stmts)))
