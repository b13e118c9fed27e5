-- What stands in a statement is less high than it.
use Rattle.std.proofs.Common.{◌≡◌, ◌∙◌, ℕ, zero, suc, ◌+◌, ◌<◌, ◌≤◌, max, List, [], ◌∷◌, length, get_or, ap, arith}
use Rattle.std.specs.Prelude.{Option}
use Rattle.std.specs.declared.vec.Vec.{Vec}
use Rattle.std.specs.declared.alloc.Global.{Global}
use Rattle.php_syntax.specs.declared.tree.Expr.{Expr}
use Rattle.php_syntax.specs.declared.tree.Stmt.{Stmt, If, While, DoWhile, For, Each}
use Rattle.php_syntax.specs.Trees.{plain_expr, plain_stmt, stmts_of, arms_of, maybe_of, exprs_of}
use Rattle.php_syntax.specs.Height.{height, maybe_height, exprs_height, stmt_height, stmts_height, arms_height}
use Rattle.php_syntax.proofs.Views.{plain_stmt-If, plain_stmt-While, plain_stmt-DoWhile, plain_stmt-For, plain_stmt-Each}

under : (n a b : ℕ) → n ≡ 1 + max a b → (a < n) × (b < n)
under n a b h = (omega arith, omega arith)

pub if_height : (s : Stmt) (arms : Vec (Expr × Vec Stmt Global) Global) (last : Vec Stmt Global) → s ≡ If arms last
    → (arms_height (arms_of arms.items) < stmt_height (plain_stmt s)) × (stmts_height (stmts_of last.items) < stmt_height (plain_stmt s))
unfolding stmt_height
if_height s arms last is = under (stmt_height (plain_stmt s)) (arms_height (arms_of arms.items)) (stmts_height (stmts_of last.items)) (ap (λ x. stmt_height (plain_stmt x)) is ∙ ap stmt_height (plain_stmt-If arms last))

pub while_height : (s : Stmt) (e : Expr) (v : Vec Stmt Global) → s ≡ While e v → stmts_height (stmts_of v.items) < stmt_height (plain_stmt s)
unfolding stmt_height
while_height s e v is = (under (stmt_height (plain_stmt s)) (height (plain_expr e)) (stmts_height (stmts_of v.items)) (ap (λ x. stmt_height (plain_stmt x)) is ∙ ap stmt_height (plain_stmt-While e v))).1

pub do_height : (s : Stmt) (v : Vec Stmt Global) (e : Expr) → s ≡ DoWhile v e → stmts_height (stmts_of v.items) < stmt_height (plain_stmt s)
unfolding stmt_height
do_height s v e is = (under (stmt_height (plain_stmt s)) (stmts_height (stmts_of v.items)) (height (plain_expr e)) (ap (λ x. stmt_height (plain_stmt x)) is ∙ ap stmt_height (plain_stmt-DoWhile v e))).0

for_under : (n a b c d : ℕ) → n ≡ 1 + max a (max b (max c d)) → d < n
for_under n a b c d h = omega arith

pub for_height : (s : Stmt) (begin : Vec Expr Global) (e : Option Expr) (next : Vec Expr Global) (v : Vec Stmt Global) → s ≡ For begin e next v → stmts_height (stmts_of v.items) < stmt_height (plain_stmt s)
unfolding stmt_height
for_height s begin e next v is = for_under (stmt_height (plain_stmt s)) (exprs_height (exprs_of begin.items)) (maybe_height (maybe_of e)) (exprs_height (exprs_of next.items)) (stmts_height (stmts_of v.items)) (ap (λ x. stmt_height (plain_stmt x)) is ∙ ap stmt_height (plain_stmt-For begin e next v))

pub each_height : (s : Stmt) (e : Expr) (k : Option (List ℕ)) (x : List ℕ) (v : Vec Stmt Global) → s ≡ Each e k x v → stmts_height (stmts_of v.items) < stmt_height (plain_stmt s)
unfolding stmt_height
each_height s e k x v is = (under (stmt_height (plain_stmt s)) (height (plain_expr e)) (stmts_height (stmts_of v.items)) (ap (λ y. stmt_height (plain_stmt y)) is ∙ ap stmt_height (plain_stmt-Each e k x v))).1

-- a member of a list of statements, or of arms, is at most as high as it
pub member_height : (ss : List Stmt) (i : ℕ) (s : Stmt) → i < length ss → stmt_height (plain_stmt (get_or ss i s)) ≤ stmts_height (stmts_of ss)
unfolding stmt_height
member_height [] i s h = absurd (omega arith)
member_height (x ∷ ss) zero s h = omega arith
member_height (x ∷ ss) (suc i) s h = omega (arith, member_height ss i s (omega arith))

pub arm_height : (arms : List (Expr × Vec Stmt Global)) (i : ℕ) (a : Expr × Vec Stmt Global) → i < length arms → stmts_height (stmts_of (get_or arms i a).1.items) ≤ arms_height (arms_of arms)
unfolding stmt_height
arm_height [] i a h = absurd (omega arith)
arm_height (x ∷ arms) zero a h = omega arith
arm_height (x ∷ arms) (suc i) a h = omega (arith, arm_height arms i a (omega arith))

pub first_height : (arms rest : List (Expr × Vec Stmt Global)) (first : Expr × Vec Stmt Global) → arms ≡ first ∷ rest → (stmts_height (stmts_of first.1.items) ≤ arms_height (arms_of arms)) × (arms_height (arms_of rest) ≤ arms_height (arms_of arms))
unfolding stmt_height
first_height arms rest first is = let at : arms_height (arms_of arms) ≡ max (height (plain_expr first.0)) (max (stmts_height (stmts_of first.1.items)) (arms_height (arms_of rest))) = ap (λ x. arms_height (arms_of x)) is in (omega arith, omega arith)
