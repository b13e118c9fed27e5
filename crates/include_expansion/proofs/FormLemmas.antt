-- Statements have the forms of the grammar where their includes are replaced.
use Rattle.std.proofs.Common.{◌≡◌, ℕ, true, List, refl}
use Rattle.std.specs.Prelude.{◌&&◌}
use Rattle.php_syntax.specs.Trees.{PlainStmt, inline_stmt, echo_stmt, run_stmt, if_stmt, while_stmt, do_while_stmt, for_stmt, each_stmt, break_stmt, continue_stmt, return_stmt, include_stmt, quit_stmt, PlainStmts, no_stmts, more_stmts, PlainArms, no_arms, more_arms}
use Rattle.spellable.specs.Spellable.{expr_spellable, maybe_spellable, exprs_spellable, is_maybe_name, is_name, is_some_arms, stmt_spellable, stmts_spellable, arms_spellable}
use Rattle.program_rules.specs.Bodies.{followed_by, with_bodies, with_bodies_in, with_bodies_in_arms}
use Rattle.include_expansion.proofs.Tests.{left, right, both, second, first}

followed : (a b : PlainStmts) → stmts_spellable a ≡ true → stmts_spellable b ≡ true → stmts_spellable (followed_by a b) ≡ true
unfolding stmt_spellable followed_by
followed no_stmts b e g = g
followed (more_stmts s ss) b e g = both (stmt_spellable s) (stmts_spellable (followed_by ss b)) (left (stmt_spellable s) (stmts_spellable ss) e) (followed ss b (right (stmt_spellable s) (stmts_spellable ss) e) g)

alone : (s : PlainStmt) → stmt_spellable s ≡ true → stmts_spellable (more_stmts s no_stmts) ≡ true
unfolding stmt_spellable
alone s e = both (stmt_spellable s) true e refl

some_arms : (bodies : List ℕ → PlainStmts) (a : PlainArms) → is_some_arms a ≡ true → is_some_arms (with_bodies_in_arms bodies a) ≡ true
unfolding with_bodies
some_arms bodies no_arms e = e
some_arms bodies (more_arms x ss a) e = refl

mutual
  unfolding stmt_spellable with_bodies

  pub keep_stmts : (bodies : List ℕ → PlainStmts) → ((path : List ℕ) → stmts_spellable (bodies path) ≡ true) → (ss : PlainStmts) → stmts_spellable ss ≡ true → stmts_spellable (with_bodies bodies ss) ≡ true
  keep_stmts bodies h no_stmts e = refl
  keep_stmts bodies h (more_stmts s ss) e =
      followed (with_bodies_in bodies s) (with_bodies bodies ss) (keep_stmt bodies h s (left (stmt_spellable s) (stmts_spellable ss) e)) (keep_stmts bodies h ss (right (stmt_spellable s) (stmts_spellable ss) e))

  keep_stmt : (bodies : List ℕ → PlainStmts) → ((path : List ℕ) → stmts_spellable (bodies path) ≡ true) → (s : PlainStmt) → stmt_spellable s ≡ true → stmts_spellable (with_bodies_in bodies s) ≡ true
  keep_stmt bodies h (inline_stmt t) e = alone (inline_stmt t) e
  keep_stmt bodies h (echo_stmt es) e = alone (echo_stmt es) e
  keep_stmt bodies h (run_stmt x) e = alone (run_stmt x) e
  keep_stmt bodies h (if_stmt a ss) e =
      let rest = right (is_some_arms a) (arms_spellable a && stmts_spellable ss) e in
      alone (if_stmt (with_bodies_in_arms bodies a) (with_bodies bodies ss))
      (both (is_some_arms (with_bodies_in_arms bodies a)) (arms_spellable (with_bodies_in_arms bodies a) && stmts_spellable (with_bodies bodies ss)) (some_arms bodies a (left (is_some_arms a) (arms_spellable a && stmts_spellable ss) e))
      (both (arms_spellable (with_bodies_in_arms bodies a)) (stmts_spellable (with_bodies bodies ss)) (keep_arms bodies h a (left (arms_spellable a) (stmts_spellable ss) rest)) (keep_stmts bodies h ss (right (arms_spellable a) (stmts_spellable ss) rest))))
  keep_stmt bodies h (while_stmt x ss) e = alone (while_stmt x (with_bodies bodies ss)) (second (expr_spellable x) (stmts_spellable ss) (stmts_spellable (with_bodies bodies ss)) (keep_stmts bodies h ss) e)
  keep_stmt bodies h (do_while_stmt ss x) e = alone (do_while_stmt (with_bodies bodies ss) x) (first (stmts_spellable ss) (expr_spellable x) (stmts_spellable (with_bodies bodies ss)) (keep_stmts bodies h ss) e)
  keep_stmt bodies h (for_stmt begin x next ss) e = alone (for_stmt begin x next (with_bodies bodies ss))
      (second (exprs_spellable begin) (maybe_spellable x && (exprs_spellable next && stmts_spellable ss)) (maybe_spellable x && (exprs_spellable next && stmts_spellable (with_bodies bodies ss)))
      (second (maybe_spellable x) (exprs_spellable next && stmts_spellable ss) (exprs_spellable next && stmts_spellable (with_bodies bodies ss)) (second (exprs_spellable next) (stmts_spellable ss) (stmts_spellable (with_bodies bodies ss)) (keep_stmts bodies h ss))) e)
  keep_stmt bodies h (each_stmt x k v ss) e = alone (each_stmt x k v (with_bodies bodies ss))
      (second (expr_spellable x) (is_maybe_name k && (is_name v && stmts_spellable ss)) (is_maybe_name k && (is_name v && stmts_spellable (with_bodies bodies ss)))
      (second (is_maybe_name k) (is_name v && stmts_spellable ss) (is_name v && stmts_spellable (with_bodies bodies ss)) (second (is_name v) (stmts_spellable ss) (stmts_spellable (with_bodies bodies ss)) (keep_stmts bodies h ss))) e)
  keep_stmt bodies h break_stmt e = alone break_stmt e
  keep_stmt bodies h continue_stmt e = alone continue_stmt e
  keep_stmt bodies h (return_stmt x) e = alone (return_stmt x) e
  keep_stmt bodies h (include_stmt path) e = h path
  keep_stmt bodies h (quit_stmt x) e = alone (quit_stmt x) e

  keep_arms : (bodies : List ℕ → PlainStmts) → ((path : List ℕ) → stmts_spellable (bodies path) ≡ true) → (a : PlainArms) → arms_spellable a ≡ true → arms_spellable (with_bodies_in_arms bodies a) ≡ true
  keep_arms bodies h no_arms e = refl
  keep_arms bodies h (more_arms x ss a) e =
      let rest = right (expr_spellable x) (stmts_spellable ss && arms_spellable a) e in
      both (expr_spellable x) (stmts_spellable (with_bodies bodies ss) && arms_spellable (with_bodies_in_arms bodies a)) (left (expr_spellable x) (stmts_spellable ss && arms_spellable a) e)
      (both (stmts_spellable (with_bodies bodies ss)) (arms_spellable (with_bodies_in_arms bodies a)) (keep_stmts bodies h ss (left (stmts_spellable ss) (arms_spellable a) rest)) (keep_arms bodies h a (right (stmts_spellable ss) (arms_spellable a) rest)))
