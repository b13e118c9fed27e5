use Rattle.std.proofs.Common.{List, ap, arith, rules}
use Rattle.std.specs.declared.vec.Vec.{Vec}
use Rattle.std.specs.declared.alloc.Global.{Global}
use Rattle.php_syntax.specs.declared.tree.Expr.{Expr}
use Rattle.php_syntax.specs.declared.tree.Stmt.{Stmt}
use Rattle.php_syntax.specs.Trees.{plain_stmt, stmts_of, arms_of}
use Rattle.php_syntax.specs.Height.{stmt_height, stmts_height, arms_height}
use Rattle.spellable.proofs.StmtHeights.{if_height, while_height, do_height, for_height, each_height, member_height, arm_height}
use Rattle.tree_walks.proofs.statement_visits.+statements.Goals as goal

pub visit_stmts-visit_stmt-requires : goal.visit_stmts-visit_stmt-requires
visit_stmts-visit_stmt-requires g t c κs within =
    let h = member_height c.args.stmts.now c.loop-stmt.stmt-index c.stmt-item.result c.loop-stmt-test.true in
    let e = ap (λ (s : Stmt). stmt_height (plain_stmt s)) c.stmt-item.is in
    (omega (arith, h, e, c.decreases), search rules)

pub visit_arms-visit_stmts-requires : goal.visit_arms-visit_stmts-requires
visit_arms-visit_stmts-requires g t c κs within =
    let k = arm_height c.args.arms.now c.loop-arm.arm-index c.arm-item.result c.loop-arm-test.true in
    let e = ap (λ (a : Expr × Vec Stmt Global). stmts_height (stmts_of a.1.items)) c.arm-item.is in
    let s = ap (λ (a : List Stmt). stmts_height (stmts_of a)) c.as_slice.ensures.value in
    (omega (arith, k, e, s, c.decreases), search rules)

pub visit_stmt-visit_arms-requires : goal.visit_stmt-visit_arms-requires
visit_stmt-visit_arms-requires g t c κs within =
    let h = if_height c.args.stmt.now c.in-If.arms c.in-If.otherwise c.in-If.is in
    let e = ap (λ (a : List (Expr × Vec Stmt Global)). arms_height (arms_of a)) c.as_slice-in-If.ensures.value in
    (omega (arith, h, e, c.decreases), search rules)

pub visit_stmt-visit_stmts-requires : goal.visit_stmt-visit_stmts-requires
visit_stmt-visit_stmts-requires g t c κs within =
    let h = if_height c.args.stmt.now c.in-If.arms c.in-If.otherwise c.in-If.is in
    let e = ap (λ (a : List Stmt). stmts_height (stmts_of a)) c.as_slice-in-If-2.ensures.value in
    (omega (arith, h, e, c.decreases), search rules)

pub visit_stmt-visit_stmts-requires-in-While : goal.visit_stmt-visit_stmts-requires-in-While
visit_stmt-visit_stmts-requires-in-While g t c κs within =
    let h = while_height c.args.stmt.now c.in-While.test c.in-While.body c.in-While.is in
    let e = ap (λ (a : List Stmt). stmts_height (stmts_of a)) c.as_slice-in-While.ensures.value in
    (omega (arith, h, e, c.decreases), search rules)

pub visit_stmt-visit_stmts-requires-in-DoWhile : goal.visit_stmt-visit_stmts-requires-in-DoWhile
visit_stmt-visit_stmts-requires-in-DoWhile g t c κs within =
    let h = do_height c.args.stmt.now c.in-DoWhile.body c.in-DoWhile.test c.in-DoWhile.is in
    let e = ap (λ (a : List Stmt). stmts_height (stmts_of a)) c.as_slice-in-DoWhile.ensures.value in
    (omega (arith, h, e, c.decreases), search rules)

pub visit_stmt-visit_stmts-requires-in-For : goal.visit_stmt-visit_stmts-requires-in-For
visit_stmt-visit_stmts-requires-in-For g t c κs within =
    let h = for_height c.args.stmt.now c.in-For.begin c.in-For.test c.in-For.next c.in-For.body c.in-For.is in
    let e = ap (λ (a : List Stmt). stmts_height (stmts_of a)) c.as_slice-in-For-3.ensures.value in
    (omega (arith, h, e, c.decreases), search rules)

pub visit_stmt-visit_stmts-requires-in-Each : goal.visit_stmt-visit_stmts-requires-in-Each
visit_stmt-visit_stmts-requires-in-Each g t c κs within =
    let h = each_height c.args.stmt.now c.in-Each.array c.in-Each.key c.in-Each.value c.in-Each.body c.in-Each.is in
    let e = ap (λ (a : List Stmt). stmts_height (stmts_of a)) c.as_slice-in-Each.ensures.value in
    (omega (arith, h, e, c.decreases), search rules)
