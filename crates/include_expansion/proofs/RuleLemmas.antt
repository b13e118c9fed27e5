-- Statements keep the rules beside the grammar where their includes are replaced.
use Rattle.std.proofs.Common.{◌≡◌, ℕ, Bool, true, false, List, refl}
use Rattle.std.specs.Prelude.{◌&&◌}
use Rattle.php_syntax.specs.Trees.{PlainStmt, inline_stmt, echo_stmt, run_stmt, if_stmt, while_stmt, do_while_stmt, for_stmt, each_stmt, break_stmt, continue_stmt, return_stmt, include_stmt, quit_stmt, PlainStmts, no_stmts, more_stmts, PlainArms, no_arms, more_arms}
use Rattle.script_grammar.specs.Rules.{expr_fits, maybe_fits, exprs_fit, is_writable, maybe_writable, stmt_fits, stmts_fit, arms_fit}
use Rattle.program_rules.specs.Bodies.{followed_by, with_bodies, with_bodies_in, with_bodies_in_arms}
use Rattle.include_expansion.proofs.Tests.{left, right, both, second, first}

-- what may stand outside loops and functions may stand in them
mutual
  unfolding stmt_fits

  raise_stmts : (l m f g : Bool) → (l ≡ true → m ≡ true) → (f ≡ true → g ≡ true) → (ss : PlainStmts) → stmts_fit l f ss ≡ true → stmts_fit m g ss ≡ true
  raise_stmts l m f g p q no_stmts e = refl
  raise_stmts l m f g p q (more_stmts s ss) e =
      both (stmt_fits m g s) (stmts_fit m g ss) (raise_stmt l m f g p q s (left (stmt_fits l f s) (stmts_fit l f ss) e)) (raise_stmts l m f g p q ss (right (stmt_fits l f s) (stmts_fit l f ss) e))

  raise_stmt : (l m f g : Bool) → (l ≡ true → m ≡ true) → (f ≡ true → g ≡ true) → (s : PlainStmt) → stmt_fits l f s ≡ true → stmt_fits m g s ≡ true
  raise_stmt l m f g p q (inline_stmt t) e = e
  raise_stmt l m f g p q (echo_stmt es) e = e
  raise_stmt l m f g p q (run_stmt x) e = e
  raise_stmt l m f g p q (if_stmt a ss) e = both (arms_fit m g a) (stmts_fit m g ss) (raise_arms l m f g p q a (left (arms_fit l f a) (stmts_fit l f ss) e)) (raise_stmts l m f g p q ss (right (arms_fit l f a) (stmts_fit l f ss) e))
  raise_stmt l m f g p q (while_stmt x ss) e = second (expr_fits x) (stmts_fit true f ss) (stmts_fit true g ss) (raise_stmts true true f g (λ h. h) q ss) e
  raise_stmt l m f g p q (do_while_stmt ss x) e = first (stmts_fit true f ss) (expr_fits x) (stmts_fit true g ss) (raise_stmts true true f g (λ h. h) q ss) e
  raise_stmt l m f g p q (for_stmt begin x next ss) e =
      second (exprs_fit begin) (maybe_fits x && (exprs_fit next && stmts_fit true f ss)) (maybe_fits x && (exprs_fit next && stmts_fit true g ss))
      (second (maybe_fits x) (exprs_fit next && stmts_fit true f ss) (exprs_fit next && stmts_fit true g ss) (second (exprs_fit next) (stmts_fit true f ss) (stmts_fit true g ss) (raise_stmts true true f g (λ h. h) q ss))) e
  raise_stmt l m f g p q (each_stmt x k v ss) e =
      second (expr_fits x) (maybe_writable k && (is_writable v && stmts_fit true f ss)) (maybe_writable k && (is_writable v && stmts_fit true g ss))
      (second (maybe_writable k) (is_writable v && stmts_fit true f ss) (is_writable v && stmts_fit true g ss) (second (is_writable v) (stmts_fit true f ss) (stmts_fit true g ss) (raise_stmts true true f g (λ h. h) q ss))) e
  raise_stmt l m f g p q break_stmt e = p e
  raise_stmt l m f g p q continue_stmt e = p e
  raise_stmt l m f g p q (return_stmt x) e = first f (maybe_fits x) g q e
  raise_stmt l m f g p q (include_stmt t) e = e
  raise_stmt l m f g p q (quit_stmt x) e = e

  raise_arms : (l m f g : Bool) → (l ≡ true → m ≡ true) → (f ≡ true → g ≡ true) → (a : PlainArms) → arms_fit l f a ≡ true → arms_fit m g a ≡ true
  raise_arms l m f g p q no_arms e = refl
  raise_arms l m f g p q (more_arms x ss a) e =
      let rest = right (expr_fits x) (stmts_fit l f ss && arms_fit l f a) e in
      both (expr_fits x) (stmts_fit m g ss && arms_fit m g a) (left (expr_fits x) (stmts_fit l f ss && arms_fit l f a) e)
      (both (stmts_fit m g ss) (arms_fit m g a) (raise_stmts l m f g p q ss (left (stmts_fit l f ss) (arms_fit l f a) rest)) (raise_arms l m f g p q a (right (stmts_fit l f ss) (arms_fit l f a) rest)))

from_none : (b : Bool) → false ≡ true → b ≡ true
from_none b e = absurd (cc)

followed : (l f : Bool) (a b : PlainStmts) → stmts_fit l f a ≡ true → stmts_fit l f b ≡ true → stmts_fit l f (followed_by a b) ≡ true
unfolding stmt_fits followed_by
followed l f no_stmts b e g = g
followed l f (more_stmts s ss) b e g = both (stmt_fits l f s) (stmts_fit l f (followed_by ss b)) (left (stmt_fits l f s) (stmts_fit l f ss) e) (followed l f ss b (right (stmt_fits l f s) (stmts_fit l f ss) e) g)

alone : (l f : Bool) (s : PlainStmt) → stmt_fits l f s ≡ true → stmts_fit l f (more_stmts s no_stmts) ≡ true
unfolding stmt_fits
alone l f s e = both (stmt_fits l f s) true e refl

mutual
  unfolding stmt_fits with_bodies

  pub keep_stmts : (bodies : List ℕ → PlainStmts) → ((path : List ℕ) → stmts_fit false false (bodies path) ≡ true) → (l f : Bool) (ss : PlainStmts) → stmts_fit l f ss ≡ true → stmts_fit l f (with_bodies bodies ss) ≡ true
  keep_stmts bodies h l f no_stmts e = refl
  keep_stmts bodies h l f (more_stmts s ss) e =
      followed l f (with_bodies_in bodies s) (with_bodies bodies ss) (keep_stmt bodies h l f s (left (stmt_fits l f s) (stmts_fit l f ss) e)) (keep_stmts bodies h l f ss (right (stmt_fits l f s) (stmts_fit l f ss) e))

  keep_stmt : (bodies : List ℕ → PlainStmts) → ((path : List ℕ) → stmts_fit false false (bodies path) ≡ true) → (l f : Bool) (s : PlainStmt) → stmt_fits l f s ≡ true → stmts_fit l f (with_bodies_in bodies s) ≡ true
  keep_stmt bodies h l f (inline_stmt t) e = refl
  keep_stmt bodies h l f (echo_stmt es) e = alone l f (echo_stmt es) e
  keep_stmt bodies h l f (run_stmt x) e = alone l f (run_stmt x) e
  keep_stmt bodies h l f (if_stmt a ss) e = alone l f (if_stmt (with_bodies_in_arms bodies a) (with_bodies bodies ss))
      (both (arms_fit l f (with_bodies_in_arms bodies a)) (stmts_fit l f (with_bodies bodies ss)) (keep_arms bodies h l f a (left (arms_fit l f a) (stmts_fit l f ss) e)) (keep_stmts bodies h l f ss (right (arms_fit l f a) (stmts_fit l f ss) e)))
  keep_stmt bodies h l f (while_stmt x ss) e = alone l f (while_stmt x (with_bodies bodies ss)) (second (expr_fits x) (stmts_fit true f ss) (stmts_fit true f (with_bodies bodies ss)) (keep_stmts bodies h true f ss) e)
  keep_stmt bodies h l f (do_while_stmt ss x) e = alone l f (do_while_stmt (with_bodies bodies ss) x) (first (stmts_fit true f ss) (expr_fits x) (stmts_fit true f (with_bodies bodies ss)) (keep_stmts bodies h true f ss) e)
  keep_stmt bodies h l f (for_stmt begin x next ss) e = alone l f (for_stmt begin x next (with_bodies bodies ss))
      (second (exprs_fit begin) (maybe_fits x && (exprs_fit next && stmts_fit true f ss)) (maybe_fits x && (exprs_fit next && stmts_fit true f (with_bodies bodies ss)))
      (second (maybe_fits x) (exprs_fit next && stmts_fit true f ss) (exprs_fit next && stmts_fit true f (with_bodies bodies ss)) (second (exprs_fit next) (stmts_fit true f ss) (stmts_fit true f (with_bodies bodies ss)) (keep_stmts bodies h true f ss))) e)
  keep_stmt bodies h l f (each_stmt x k v ss) e = alone l f (each_stmt x k v (with_bodies bodies ss))
      (second (expr_fits x) (maybe_writable k && (is_writable v && stmts_fit true f ss)) (maybe_writable k && (is_writable v && stmts_fit true f (with_bodies bodies ss)))
      (second (maybe_writable k) (is_writable v && stmts_fit true f ss) (is_writable v && stmts_fit true f (with_bodies bodies ss)) (second (is_writable v) (stmts_fit true f ss) (stmts_fit true f (with_bodies bodies ss)) (keep_stmts bodies h true f ss))) e)
  keep_stmt bodies h l f break_stmt e = alone l f break_stmt e
  keep_stmt bodies h l f continue_stmt e = alone l f continue_stmt e
  keep_stmt bodies h l f (return_stmt x) e = alone l f (return_stmt x) e
  keep_stmt bodies h l f (include_stmt path) e = raise_stmts false l false f (from_none l) (from_none f) (bodies path) (h path)
  keep_stmt bodies h l f (quit_stmt x) e = alone l f (quit_stmt x) e

  keep_arms : (bodies : List ℕ → PlainStmts) → ((path : List ℕ) → stmts_fit false false (bodies path) ≡ true) → (l f : Bool) (a : PlainArms) → arms_fit l f a ≡ true → arms_fit l f (with_bodies_in_arms bodies a) ≡ true
  keep_arms bodies h l f no_arms e = refl
  keep_arms bodies h l f (more_arms x ss a) e =
      let rest = right (expr_fits x) (stmts_fit l f ss && arms_fit l f a) e in
      both (expr_fits x) (stmts_fit l f (with_bodies bodies ss) && arms_fit l f (with_bodies_in_arms bodies a)) (left (expr_fits x) (stmts_fit l f ss && arms_fit l f a) e)
      (both (stmts_fit l f (with_bodies bodies ss)) (arms_fit l f (with_bodies_in_arms bodies a)) (keep_stmts bodies h l f ss (left (stmts_fit l f ss) (arms_fit l f a) rest)) (keep_arms bodies h l f a (right (stmts_fit l f ss) (arms_fit l f a) rest)))
