-- Statements and further ones.
use Rattle.std.proofs.Common.{◌≡◌, List, [], ◌∷◌, ◌++◌, refl, ap}
use Rattle.php_syntax.specs.declared.tree.Stmt.{Stmt}
use Rattle.php_syntax.specs.Trees.{PlainStmt, PlainStmts, no_stmts, more_stmts, plain_stmt, stmts_of}
use Rattle.program_rules.specs.Bodies.{followed_by}

pub followed-none : (a : PlainStmts) → followed_by a no_stmts ≡ a
unfolding followed_by
followed-none no_stmts = refl
followed-none (more_stmts s ss) = ap (more_stmts s) (followed-none ss)

pub none-followed : (a : PlainStmts) → followed_by no_stmts a ≡ a
unfolding followed_by
none-followed a = refl

pub followed-assoc : (a b c : PlainStmts) → followed_by (followed_by a b) c ≡ followed_by a (followed_by b c)
unfolding followed_by
followed-assoc no_stmts b c = refl
followed-assoc (more_stmts s ss) b c = ap (more_stmts s) (followed-assoc ss b c)

pub followed-more : (s : PlainStmt) (ss b : PlainStmts) → followed_by (more_stmts s ss) b ≡ more_stmts s (followed_by ss b)
unfolding followed_by
followed-more s ss b = refl

pub followed-push : (xs : List Stmt) (x : Stmt) → stmts_of (xs ++ x ∷ []) ≡ followed_by (stmts_of xs) (more_stmts (plain_stmt x) no_stmts)
unfolding followed_by
followed-push [] x = refl
followed-push (y ∷ ys) x = ap (more_stmts (plain_stmt y)) (followed-push ys x)

pub ruleset ends = (followed-none, none-followed, followed-assoc, followed-more, followed-push)
