-- Rows of statements: one more statement, several more, and the whole row.
use Rattle.std.proofs.Common.{◌≡◌, ◌∙◌, ℕ, suc, ◌+◌, Bool, true, false, refl, ap, arith, add-one, Some, None}
use Rattle.std.specs.Prelude.{Option, if◌then◌else◌, nat_le, nat_lt, max}
use Rattle.std.proofs.Math.Nat.{max-zero, zero-max}
use Rattle.php_syntax.specs.Trees.{PlainStmt, PlainStmts, no_stmts, more_stmts}
use Rattle.php_syntax.specs.Height.{stmt_height, stmts_height}
use Rattle.expr_laws.proofs.NodeValues.{high_left, high_right, both_low, higher}
use Rattle.stmt_machine.specs.Made.{Row, Node, row_of, add_stmt, add_node}

-- what is kept of something so high
abbrev pub kept : {A : Type 0} → A → ℕ → Option (A × ℕ)
kept a h = if nat_le h 200 then Some (a, h) else None

-- a row with one more statement
abbrev pub put_stmt : PlainStmt → Row → Row
put_stmt s None = None
put_stmt s (Some row) = if nat_le (stmt_height s) 200 then Some (add_stmt row.0 s, max row.1 (stmt_height s)) else None

-- a row with more statements
abbrev pub put_stmts : PlainStmts → Row → Row
put_stmts no_stmts r = r
put_stmts (more_stmts s ss) r = put_stmts ss (put_stmt s r)

abbrev pub append_stmts : PlainStmts → PlainStmts → PlainStmts
append_stmts no_stmts ss = ss
append_stmts (more_stmts t tt) ss = more_stmts t (append_stmts tt ss)

append_added : (tt : PlainStmts) (s : PlainStmt) (ss : PlainStmts) → append_stmts (add_stmt tt s) ss ≡ append_stmts tt (more_stmts s ss)
append_added no_stmts s ss = refl
append_added (more_stmts t tt) s ss = ap (more_stmts t) (append_added tt s ss)

pub max_three : (h k t : ℕ) → max (max h k) t ≡ max h (max k t)
max_three h k t = omega arith

none_put : (ss : PlainStmts) → put_stmts ss None ≡ None
none_put no_stmts = refl
none_put (more_stmts s ss) = none_put ss

stmt_put : (s : PlainStmt) (tt : PlainStmts) (h k : ℕ) (p q : Bool) → nat_le h 200 ≡ p → nat_le k 200 ≡ q → stmt_height s ≡ k
    → put_stmt s (if p then Some (tt, h) else None) ≡ kept (add_stmt tt s) (max h k)
stmt_put s tt h k true true i j e = rw (e, j, both_low h k 200 i j) refl
stmt_put s tt h k true false i j e = rw (e, j, high_right h k 200 j) refl
stmt_put s tt h k false q i j e = rw (high_left h k 200 i) refl

append_none : (tt : PlainStmts) → append_stmts tt no_stmts ≡ tt
append_none no_stmts = refl
append_none (more_stmts t tt) = ap (more_stmts t) (append_none tt)

stmts_put : (ss tt : PlainStmts) (h : ℕ) → put_stmts ss (kept tt h) ≡ kept (append_stmts tt ss) (max h (stmts_height ss))
unfolding stmts_height
stmts_put no_stmts tt h = rw (append_none tt, max-zero h) refl
stmts_put (more_stmts s ss) tt h =
    ap (put_stmts ss) (stmt_put s tt h (stmt_height s) (nat_le h 200) (nat_le (stmt_height s) 200) refl refl refl)
    ∙ stmts_put ss (add_stmt tt s) (max h (stmt_height s))
    ∙ ap (λ k. kept (append_stmts (add_stmt tt s) ss) k) (max_three h (stmt_height s) (stmts_height ss))
    ∙ ap (λ tt. kept tt (max h (max (stmt_height s) (stmts_height ss)))) (append_added tt s ss)

-- the whole row
pub all_put : (ss : PlainStmts) → put_stmts ss (Some (no_stmts, 0)) ≡ row_of ss
all_put ss = stmts_put ss no_stmts 0 ∙ ap (kept ss) (zero-max (stmts_height ss))

nothing_added : (n : Node) → add_node n None ≡ None
nothing_added None = refl
nothing_added (Some n) = refl

node_added : (s : PlainStmt) (h k : ℕ) (row : PlainStmts × ℕ) (p : Bool) → k ≡ suc h → nat_le h 200 ≡ p → stmt_height s ≡ k
    → add_node (if p then Some (s, h) else None) (Some row) ≡ put_stmt s (Some row)
node_added s h k row true i j e = rw (e, i) (ap (λ n. if nat_lt h 200 then Some (add_stmt row.0 s, max row.1 n) else None) (add-one h))
node_added s h k row false i j e = rw (e, higher h k 200 (omega (arith, i)) j) refl

-- one more statement whose parts are at most so high
pub node_put : (s : PlainStmt) (h : ℕ) (r : Row) → stmt_height s ≡ 1 + h → add_node (kept s h) r ≡ put_stmt s r
node_put s h None e = nothing_added (kept s h)
node_put s h (Some row) e = node_added s h (suc h) row (nat_le h 200) refl refl (omega (arith, e))
