use Rattle.std.proofs.Common.{List, ap, arith}
use Rattle.std.specs.declared.vec.Vec.{Vec}
use Rattle.std.specs.declared.alloc.Global.{Global}
use Rattle.php_syntax.specs.declared.tree.Expr.{Expr}
use Rattle.php_syntax.specs.declared.tree.Stmt.{Stmt}
use Rattle.php_syntax.specs.Trees.{plain_stmt, stmts_of, arms_of}
use Rattle.php_syntax.specs.Height.{stmt_height, stmts_height, arms_height}
use Rattle.spellable.proofs.StmtHeights.{if_height, while_height, do_height, for_height, each_height, member_height, arm_height}
use Rattle.program_files.proofs.includes.+includes.Goals as goal

pub find_in-find_of-requires : goal.find_in-find_of-requires
find_in-find_of-requires t c =
    let h = member_height c.args.stmts.now c.loop-stmt.stmt-index c.stmt-item.result c.loop-stmt-test.true in
    let e = ap (λ (s : Stmt). stmt_height (plain_stmt s)) c.stmt-item.is in
    (omega (arith, h, e, c.decreases), tt)

pub find_in_arms-find_in-requires : goal.find_in_arms-find_in-requires
find_in_arms-find_in-requires t c =
    let k = arm_height c.args.arms.now c.loop-arm.arm-index c.arm-item.result c.loop-arm-test.true in
    let e = ap (λ (a : Expr × Vec Stmt Global). stmts_height (stmts_of a.1.items)) c.arm-item.is in
    let s = ap (λ (a : List Stmt). stmts_height (stmts_of a)) c.as_slice.ensures.value in
    (omega (arith, k, e, s, c.decreases), tt)

pub find_of-find_in_arms-requires : goal.find_of-find_in_arms-requires
find_of-find_in_arms-requires t c =
    let h = if_height c.args.stmt.now c.in-If.arms c.in-If.otherwise c.in-If.is in
    let e = ap (λ (a : List (Expr × Vec Stmt Global)). arms_height (arms_of a)) c.as_slice.ensures.value in
    (omega (arith, h, e, c.decreases), tt)

pub find_of-find_in-requires : goal.find_of-find_in-requires
find_of-find_in-requires t c =
    let h = if_height c.args.stmt.now c.in-If.arms c.in-If.otherwise c.in-If.is in
    let e = ap (λ (a : List Stmt). stmts_height (stmts_of a)) c.as_slice-in-If.ensures.value in
    (omega (arith, h, e, c.decreases), tt)

pub find_of-find_in-requires-in-While : goal.find_of-find_in-requires-in-While
find_of-find_in-requires-in-While t c =
    let h = while_height c.args.stmt.now c.in-While.field-0 c.in-While.body c.in-While.is in
    let e = ap (λ (a : List Stmt). stmts_height (stmts_of a)) c.as_slice-in-While.ensures.value in
    (omega (arith, h, e, c.decreases), tt)

pub find_of-find_in-requires-in-DoWhile : goal.find_of-find_in-requires-in-DoWhile
find_of-find_in-requires-in-DoWhile t c =
    let h = do_height c.args.stmt.now c.in-DoWhile.body c.in-DoWhile.field-1 c.in-DoWhile.is in
    let e = ap (λ (a : List Stmt). stmts_height (stmts_of a)) c.as_slice-in-DoWhile.ensures.value in
    (omega (arith, h, e, c.decreases), tt)

pub find_of-find_in-requires-in-For : goal.find_of-find_in-requires-in-For
find_of-find_in-requires-in-For t c =
    let h = for_height c.args.stmt.now c.in-For.field-0 c.in-For.field-1 c.in-For.field-2 c.in-For.body c.in-For.is in
    let e = ap (λ (a : List Stmt). stmts_height (stmts_of a)) c.as_slice-in-For.ensures.value in
    (omega (arith, h, e, c.decreases), tt)

pub find_of-find_in-requires-in-Each : goal.find_of-find_in-requires-in-Each
find_of-find_in-requires-in-Each t c =
    let h = each_height c.args.stmt.now c.in-Each.field-0 c.in-Each.field-1 c.in-Each.field-2 c.in-Each.body c.in-Each.is in
    let e = ap (λ (a : List Stmt). stmts_height (stmts_of a)) c.as_slice-in-Each.ensures.value in
    (omega (arith, h, e, c.decreases), tt)
