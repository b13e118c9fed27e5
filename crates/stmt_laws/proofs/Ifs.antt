-- An `if` with its arms and its `else`.
use Rattle.std.proofs.Common.{◌≡◌, ◌∙◌, ℕ, ◌+◌, Bool, true, false, List, [], ◌∷◌, refl}
use Rattle.std.specs.Prelude.{◌&&◌}
use Rattle.script_grammar.specs.Expressions.{ExprForm, expr_tree}
use Rattle.php_syntax.specs.Trees.{PlainStmts, no_stmts, PlainArms, no_arms, more_arms, if_stmt}
use Rattle.script_grammar.specs.Rules.{expr_fits, stmt_fits, stmts_fit, arms_fit}
use Rattle.php_syntax.specs.Height.{stmt_height}
use Rattle.expr_machine.specs.Values.{PlainValue, value_of_tree, take_values}
use Rattle.stmt_machine.specs.Actions.{StmtAction, open_action, if_action}
use Rattle.stmt_machine.specs.Postfix.{value_actions}
use Rattle.stmt_machine.specs.Made.{Row, row_of, PlainBody, Functions, take_bodies, apply_stmt, execute_stmts}
use Rattle.expr_laws.proofs.Carry.{Goes, both, always, ends, begins, tested}
use Rattle.stmt_laws.proofs.States.{Premise, Header, body, made, empty, value_done, open_done}
use Rattle.stmt_laws.proofs.TreeRuns.{Actions, StatementGoes, BodyGoes}
use Rattle.stmt_laws.proofs.Arms.{behind_arms, test_behind, taken_behind, closes, closed, if_end}

-- the actions of arms behind so many, before those of what follows all of them
abbrev pub ArmsActions : Type 0
ArmsActions = ℕ → (ℕ → List StmtAction) → List StmtAction

abbrev pub ArmsGo : ArmsActions → PlainArms → Type 0
ArmsGo f a = (l g : Bool) (n : ℕ) (next : ℕ → List StmtAction) (vs : List PlainValue) (r : Row) (bs : List PlainBody) (h : Header) (fs : Functions)
    → Goes (execute_stmts (f n next) (made vs (body l g r ∷ bs) h fs)) (arms_fit l g a) (behind_arms l g (λ n vs r bs. execute_stmts (next n) (made vs (body l g r ∷ bs) h fs)) a n vs r bs)

-- the actions of an `else` behind so many arms, and of the end of the `if`
abbrev pub ElseActions : Type 0
ElseActions = ℕ → List StmtAction → List StmtAction

abbrev pub ElseGoes : ElseActions → PlainStmts → Type 0
ElseGoes f ss = (l g : Bool) (n : ℕ) (k : List StmtAction) (vs : List PlainValue) (r : Row) (bs : List PlainBody) (h : Header) (fs : Functions)
    → Goes (execute_stmts (f n k) (made vs (body l g r ∷ bs) h fs)) (stmts_fit l g ss) (closes (row_of ss) h fs k (take_bodies n [] (body l g r ∷ bs)) (take_values n [] vs))

-- the body of an arm, from where it begins
opened : (f : Actions) (ss : PlainStmts) → BodyGoes f ss → (l g : Bool) (r : Row) (k : List StmtAction) (vs : List PlainValue) (bs : List PlainBody) (h : Header) (fs : Functions)
    → Goes (execute_stmts (open_action false ∷ f k) (made vs (body l g r ∷ bs) h fs)) (stmts_fit l g ss) (execute_stmts k (made vs (body l g (row_of ss) ∷ body l g r ∷ bs) h fs))
opened f ss go l g r k vs bs h fs = begins (open_done false l g r (f k) vs bs h fs) (go l g k vs (body l g r ∷ bs) h fs)

pub no_arms_go : ArmsGo (λ n next. next n) no_arms
unfolding stmt_fits
no_arms_go l g n next vs r bs h fs = always refl

pub elseif_goes : Premise → (e : ExprForm) (f : Actions) (ss : PlainStmts) (others : ArmsActions) (a : PlainArms) → BodyGoes f ss → ArmsGo others a
    → ArmsGo (λ n next. value_actions e (open_action false ∷ f (others (n + 1) next))) (more_arms (expr_tree e) ss a)
unfolding stmt_fits
elseif_goes p e f ss others a go more l g n next vs r bs h fs =
    both (value_done p e (open_action false ∷ f (others (n + 1) next)) vs (body l g r ∷ bs) h fs)
    (both (opened f ss go l g r (others (n + 1) next) (value_of_tree (expr_tree e) ∷ vs) bs h fs)
    (more l g (n + 1) next (value_of_tree (expr_tree e) ∷ vs) (row_of ss) (body l g r ∷ bs) h fs))

pub else_if_goes : Premise → (e : ExprForm) (f : Actions) (ss : PlainStmts) (others : ArmsActions) (a : PlainArms) → BodyGoes f ss → ArmsGo others a
    → ArmsGo (λ n next. open_action false ∷ value_actions e (f (others (n + 1) next))) (more_arms (expr_tree e) ss a)
unfolding stmt_fits
else_if_goes p e f ss others a go more l g n next vs r bs h fs =
    begins (open_done false l g r (value_actions e (f (others (n + 1) next))) vs bs h fs)
    (both (value_done p e (f (others (n + 1) next)) vs (body l g empty ∷ body l g r ∷ bs) h fs)
    (both (go l g (others (n + 1) next) (value_of_tree (expr_tree e) ∷ vs) (body l g r ∷ bs) h fs)
    (more l g (n + 1) next (value_of_tree (expr_tree e) ∷ vs) (row_of ss) (body l g r ∷ bs) h fs)))

pub no_else_goes : ElseGoes (λ n k. if_action n false ∷ k) no_stmts
unfolding execute_stmts apply_stmt stmt_fits stmt_height
no_else_goes l g n k vs r bs h fs = always (closed n empty vs (body l g r ∷ bs) (body l g r ∷ bs) h fs k)

else_end : (ss : PlainStmts) (l g : Bool) (n : ℕ) (k : List StmtAction) (vs : List PlainValue) (r : Row) (bs : List PlainBody) (h : Header) (fs : Functions)
    → execute_stmts (if_action n true ∷ k) (made vs (body l g (row_of ss) ∷ body l g r ∷ bs) h fs) ≡ closes (row_of ss) h fs k (take_bodies n [] (body l g r ∷ bs)) (take_values n [] vs)
unfolding execute_stmts apply_stmt
else_end ss l g n k vs r bs h fs = closed n (row_of ss) vs (body l g r ∷ bs) (body l g (row_of ss) ∷ body l g r ∷ bs) h fs k

pub else_goes : (f : Actions) (ss : PlainStmts) → BodyGoes f ss → ElseGoes (λ n k. open_action false ∷ f (if_action n true ∷ k)) ss
else_goes f ss go l g n k vs r bs h fs = ends (opened f ss go l g r (if_action n true ∷ k) vs bs h fs) (else_end ss l g n k vs r bs h fs)

in_arms : (a b c d : Bool) → a && (b && (c && d)) ≡ (a && (b && c)) && d
in_arms true true c d = refl
in_arms true false c d = refl
in_arms false b c d = refl

pub if_goes : Premise → (e : ExprForm) (f : Actions) (ss : PlainStmts) (others : ArmsActions) (a : PlainArms) (last : ElseActions) (tt : PlainStmts) → BodyGoes f ss → ArmsGo others a → ElseGoes last tt
    → StatementGoes (λ k. value_actions e (open_action false ∷ f (others 1 (λ n. last n k)))) (if_stmt (more_arms (expr_tree e) ss a) tt)
unfolding stmt_fits
if_goes p e f ss others a last tt go more other l g r k vs bs h fs =
    let v = value_of_tree (expr_tree e) in
    let next : ℕ → List StmtAction = λ n. last n k in
    tested (in_arms (expr_fits (expr_tree e)) (stmts_fit l g ss) (arms_fit l g a) (stmts_fit l g tt))
    (both (value_done p e (open_action false ∷ f (others 1 next)) vs (body l g r ∷ bs) h fs)
    (both (opened f ss go l g r (others 1 next) (v ∷ vs) bs h fs)
    (both (more l g 1 next (v ∷ vs) (row_of ss) (body l g r ∷ bs) h fs)
    (ends (test_behind l g a (stmts_fit l g tt)
    (λ n vs r bs. execute_stmts (next n) (made vs (body l g r ∷ bs) h fs))
    (λ n vs r bs. closes (row_of tt) h fs k (take_bodies n [] (body l g r ∷ bs)) (take_values n [] vs))
    (λ n vs r bs. other l g n k vs r bs h fs) 1 (v ∷ vs) (row_of ss) (body l g r ∷ bs))
    (taken_behind l g a (closes (row_of tt) h fs k) 1 (v ∷ vs) (row_of ss) (body l g r ∷ bs)
    ∙ if_end (more_arms (expr_tree e) ss a) tt l g r k vs bs h fs)))))
