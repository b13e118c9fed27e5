use Rattle.std.proofs.Common.{rules, ◌≡◌, ◌∷◌, List, arith, ap}
use Rattle.std.specs.declared.vec.Vec.{Vec}
use Rattle.std.specs.declared.alloc.Global.{Global}
use Rattle.php_syntax.specs.declared.tree.Expr.{Expr}
use Rattle.php_syntax.specs.declared.tree.Stmt.{Stmt}
use Rattle.php_syntax.specs.Trees.{plain_stmt, stmts_of, arms_of}
use Rattle.php_syntax.specs.Height.{stmt_height, stmts_height, arms_height}
use Rattle.spellable.proofs.StmtHeights.{if_height, while_height, do_height, for_height, each_height, member_height, arm_height, first_height}
use Rattle.php_writer.proofs.statements.+statements.Goals as goal

pub statements-statement-requires : goal.statements-statement-requires
statements-statement-requires t c =
    let h = member_height c.args.stmts.now c.loop-stmt.stmt-index c.stmt-item.result c.loop-stmt-test.true in
    let e = ap (λ (s : Stmt). stmt_height (plain_stmt s)) c.stmt-item.is in
    (omega (arith, h, e, c.decreases), tt)

pub branches-arm-requires : goal.branches-arm-requires
branches-arm-requires t c =
    let is : c.args.arms.now ≡ c.in-Some.first.now ∷ c.in-Some.rest.now = search rules in
    let h = first_height c.args.arms.now c.in-Some.rest.now c.in-Some.first.now is in
    (omega (arith, h, c.decreases), tt)

pub branches-arm-requires-in-loop-another : goal.branches-arm-requires-in-loop-another
branches-arm-requires-in-loop-another t c =
    let is : c.args.arms.now ≡ c.in-Some.first.now ∷ c.in-Some.rest.now = search rules in
    let h = first_height c.args.arms.now c.in-Some.rest.now c.in-Some.first.now is in
    let k = arm_height c.in-Some.rest.now c.loop-another.another-index c.another-item.result c.loop-another-test.true in
    let e = ap (λ (a : Expr × Vec Stmt Global). stmts_height (stmts_of a.1.items)) c.another-item.is in
    (omega (arith, h, k, e, c.decreases), tt)

pub statement-branches-requires : goal.statement-branches-requires
statement-branches-requires t c =
    let h = if_height c.args.stmt.now c.in-If.arms c.in-If.last c.in-If.is in
    let e = ap (λ (a : List (Expr × Vec Stmt Global)). arms_height (arms_of a)) c.as_slice-in-If.ensures.value in
    (omega (arith, h, e, c.decreases), tt)

pub statement-otherwise-requires : goal.statement-otherwise-requires
statement-otherwise-requires t c =
    let h = if_height c.args.stmt.now c.in-If.arms c.in-If.last c.in-If.is in
    let e = ap (λ (a : List Stmt). stmts_height (stmts_of a)) c.as_slice-in-If-2.ensures.value in
    (omega (arith, h, e, c.decreases), tt)

pub statement-body-requires : goal.statement-body-requires
statement-body-requires t c =
    let h = while_height c.args.stmt.now c.in-While.test c.in-While.stmts c.in-While.is in
    let e = ap (λ (a : List Stmt). stmts_height (stmts_of a)) c.as_slice-in-While.ensures.value in
    (omega (arith, h, e, c.decreases), tt)

pub statement-body-requires-in-DoWhile : goal.statement-body-requires-in-DoWhile
statement-body-requires-in-DoWhile t c =
    let h = do_height c.args.stmt.now c.in-DoWhile.stmts c.in-DoWhile.test c.in-DoWhile.is in
    let e = ap (λ (a : List Stmt). stmts_height (stmts_of a)) c.as_slice-in-DoWhile.ensures.value in
    (omega (arith, h, e, c.decreases), tt)

pub statement-body-requires-in-For : goal.statement-body-requires-in-For
statement-body-requires-in-For t c =
    let h = for_height c.args.stmt.now c.in-For.begin c.in-For.test c.in-For.next c.in-For.stmts c.in-For.is in
    let e = ap (λ (a : List Stmt). stmts_height (stmts_of a)) c.as_slice-in-For-3.ensures.value in
    (omega (arith, h, e, c.decreases), tt)

pub statement-body-requires-in-Each : goal.statement-body-requires-in-Each
statement-body-requires-in-Each t c =
    let h = each_height c.args.stmt.now c.in-Each.array c.in-Each.key c.in-Each.value c.in-Each.stmts c.in-Each.is in
    let e = ap (λ (a : List Stmt). stmts_height (stmts_of a)) c.as_slice-in-Each.ensures.value in
    (omega (arith, h, e, c.decreases), tt)
