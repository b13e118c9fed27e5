use Rattle.std.proofs.Common.{List, ap, arith}
use Rattle.std.specs.declared.vec.Vec.{Vec}
use Rattle.std.specs.declared.alloc.Global.{Global}
use Rattle.php_syntax.specs.declared.tree.Expr.{Expr}
use Rattle.php_syntax.specs.declared.tree.Stmt.{Stmt}
use Rattle.php_syntax.specs.Trees.{plain_expr, plain_stmt, stmts_of, arms_of, exprs_of, maybe_of}
use Rattle.php_syntax.specs.Height.{stmt_height, stmts_height, arms_height}
use Rattle.spellable.proofs.StmtHeights.{if_height, while_height, do_height, for_height, each_height, member_height, arm_height}
use Rattle.program_files.specs.View.{files_of}
use Rattle.program_sizes.specs.Sizes as sizes
use Rattle.program_sizes.proofs.LoopLemmas.{begin_at, go_on, finish, stmts_left, no_stmts_left, arms_left, no_arms_left}
use Rattle.program_sizes.proofs.statements.+statements.Goals as goal

pub size_of_stmts-size_of_stmt-requires : goal.size_of_stmts-size_of_stmt-requires
size_of_stmts-size_of_stmt-requires t c =
    let h = member_height c.args.stmts.now c.loop-stmt.stmt-index c.stmt-item.result c.loop-stmt-test.true in
    let e = ap (λ (s : Stmt). stmt_height (plain_stmt s)) c.stmt-item.is in
    (omega (arith, h, e, c.decreases), tt)

pub size_of_stmts-loop-stmt-init : goal.size_of_stmts-loop-stmt-init
size_of_stmts-loop-stmt-init t c = begin_at (λ (xs : List Stmt). sizes.of_stmts (sizes.size_at (files_of c.args.files.now) c.args.table.now) (stmts_of xs)) c.args.stmts.now c.none-size.result c.none-size.ensures

pub size_of_stmts-loop-stmt-preserved : goal.size_of_stmts-loop-stmt-preserved
size_of_stmts-loop-stmt-preserved t c =
    go_on c.loop-stmt.size c.size_of_stmt.result c.beside-size.result (sizes.of_stmt (sizes.size_at (files_of c.args.files.now) c.args.table.now) (plain_stmt c.stmt-item.result)) _ _ _ c.loop-stmt.invariant
    (stmts_left (sizes.size_at (files_of c.args.files.now) c.args.table.now) c.args.stmts.now c.loop-stmt.stmt-index c.stmt-item.result c.loop-stmt-test.true c.stmt-item.is) c.size_of_stmt.ensures c.beside-size.ensures

pub size_of_stmts-returns : goal.size_of_stmts-returns
size_of_stmts-returns t c = finish c.loop-stmt.size _ _ c.loop-stmt.invariant (no_stmts_left (sizes.size_at (files_of c.args.files.now) c.args.table.now) c.args.stmts.now c.loop-stmt.stmt-index c.loop-stmt-test.false)

pub size_of_arms-size_of_stmts-body-requires : goal.size_of_arms-size_of_stmts-body-requires
size_of_arms-size_of_stmts-body-requires t c =
    let k = arm_height c.args.arms.now c.loop-arm.arm-index c.arm-item.result c.loop-arm-test.true in
    let e = ap (λ (a : Expr × Vec Stmt Global). stmts_height (stmts_of a.1.items)) c.arm-item.is in
    let s = ap (λ (a : List Stmt). stmts_height (stmts_of a)) c.as_slice.ensures.value in
    (omega (arith, k, e, s, c.decreases), tt)

pub size_of_arms-loop-arm-init : goal.size_of_arms-loop-arm-init
size_of_arms-loop-arm-init t c = begin_at (λ (xs : List (Expr × Vec Stmt Global)). sizes.of_arms (sizes.size_at (files_of c.args.files.now) c.args.table.now) (arms_of xs)) c.args.arms.now c.none-size.result c.none-size.ensures

pub size_of_arms-loop-arm-preserved : goal.size_of_arms-loop-arm-preserved
size_of_arms-loop-arm-preserved t c =
    let test = sizes.of_expr (plain_expr c.arm-item.result.0) in
    let body = sizes.of_stmts (sizes.size_at (files_of c.args.files.now) c.args.table.now) (stmts_of c.arm-item.result.1.items) in
    let own = rw c.as_slice.ensures.value at c.size_of_stmts-body.ensures in
    go_on c.loop-arm.size c.beside.result c.beside-size.result (sizes.beside test body) _ _ _ c.loop-arm.invariant (arms_left (sizes.size_at (files_of c.args.files.now) c.args.table.now) c.args.arms.now c.loop-arm.arm-index c.arm-item.result c.loop-arm-test.true c.arm-item.is)
    (c.beside.ensures test body c.size_of_expr-test.ensures own) c.beside-size.ensures

pub size_of_arms-returns : goal.size_of_arms-returns
size_of_arms-returns t c = finish c.loop-arm.size _ _ c.loop-arm.invariant (no_arms_left (sizes.size_at (files_of c.args.files.now) c.args.table.now) c.args.arms.now c.loop-arm.arm-index c.loop-arm-test.false)

pub size_of_if-returns : goal.size_of_if-returns
size_of_if-returns t c =
    let arms = sizes.of_arms (sizes.size_at (files_of c.args.files.now) c.args.table.now) (arms_of c.args.arms.now) in
    let last = sizes.of_stmts (sizes.size_at (files_of c.args.files.now) c.args.table.now) (stmts_of c.args.otherwise.now) in
    c.above.ensures (sizes.beside arms last) (c.beside.ensures arms last c.size_of_arms-arms.ensures c.size_of_stmts.ensures)

pub size_of_loop-returns : goal.size_of_loop-returns
size_of_loop-returns t c =
    let test = sizes.of_expr (plain_expr c.args.test.now) in
    let body = sizes.of_stmts (sizes.size_at (files_of c.args.files.now) c.args.table.now) (stmts_of c.args.body.now) in
    c.above.ensures (sizes.beside test body) (c.beside.ensures test body c.size_of_expr-head.ensures c.size_of_stmts.ensures)

pub size_of_do-returns : goal.size_of_do-returns
size_of_do-returns t c =
    let test = sizes.of_expr (plain_expr c.args.test.now) in
    let body = sizes.of_stmts (sizes.size_at (files_of c.args.files.now) c.args.table.now) (stmts_of c.args.body.now) in
    c.above.ensures (sizes.beside body test) (c.beside.ensures body test c.size_of_stmts-body.ensures c.size_of_expr.ensures)

pub size_of_for-returns : goal.size_of_for-returns
size_of_for-returns t c =
    let head = sizes.beside (sizes.beside (sizes.of_exprs (exprs_of c.args.begin.now)) (sizes.of_maybe (maybe_of c.args.test.now))) (sizes.of_exprs (exprs_of c.args.next.now)) in
    let body = sizes.of_stmts (sizes.size_at (files_of c.args.files.now) c.args.table.now) (stmts_of c.args.body.now) in
    c.above.ensures (sizes.beside head body) (c.beside.ensures head body c.size_of_head-head.ensures c.size_of_stmts.ensures)

pub size_of_stmt-size_of_if-requires : goal.size_of_stmt-size_of_if-requires
size_of_stmt-size_of_if-requires t c =
    let h = if_height c.args.stmt.now c.in-If.arms c.in-If.last c.in-If.is in
    let e = ap (λ (a : List (Expr × Vec Stmt Global)). arms_height (arms_of a)) c.as_slice-in-If.ensures.value in
    let f = ap (λ (a : List Stmt). stmts_height (stmts_of a)) c.as_slice-in-If-2.ensures.value in
    (omega (arith, h, e, f, c.decreases), tt)

pub size_of_stmt-size_of_loop-requires : goal.size_of_stmt-size_of_loop-requires
size_of_stmt-size_of_loop-requires t c =
    let h = while_height c.args.stmt.now c.in-While.test c.in-While.body c.in-While.is in
    let e = ap (λ (a : List Stmt). stmts_height (stmts_of a)) c.as_slice-in-While.ensures.value in
    (omega (arith, h, e, c.decreases), tt)

pub size_of_stmt-size_of_do-requires : goal.size_of_stmt-size_of_do-requires
size_of_stmt-size_of_do-requires t c =
    let h = do_height c.args.stmt.now c.in-DoWhile.body c.in-DoWhile.test c.in-DoWhile.is in
    let e = ap (λ (a : List Stmt). stmts_height (stmts_of a)) c.as_slice-in-DoWhile.ensures.value in
    (omega (arith, h, e, c.decreases), tt)

pub size_of_stmt-size_of_for-requires : goal.size_of_stmt-size_of_for-requires
size_of_stmt-size_of_for-requires t c =
    let h = for_height c.args.stmt.now c.in-For.begin c.in-For.test c.in-For.next c.in-For.body c.in-For.is in
    let e = ap (λ (a : List Stmt). stmts_height (stmts_of a)) c.as_slice-in-For-3.ensures.value in
    (omega (arith, h, e, c.decreases), tt)

pub size_of_stmt-size_of_loop-requires-in-Each : goal.size_of_stmt-size_of_loop-requires-in-Each
size_of_stmt-size_of_loop-requires-in-Each t c =
    let h = each_height c.args.stmt.now c.in-Each.array c.in-Each.field-1 c.in-Each.field-2 c.in-Each.body c.in-Each.is in
    let e = ap (λ (a : List Stmt). stmts_height (stmts_of a)) c.as_slice-in-Each.ensures.value in
    (omega (arith, h, e, c.decreases), tt)
