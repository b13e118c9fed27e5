use Rattle.std.proofs.Common.{◌≡◌, ◌∙◌, ◌-◌, List, ap, sym, subst, arith}
use Rattle.std.specs.Prelude.{OnOk}
use Rattle.std.specs.declared.vec.Vec.{Vec}
use Rattle.std.specs.declared.alloc.Global.{Global}
use Rattle.php_syntax.specs.declared.tree.Expr.{Expr}
use Rattle.php_syntax.specs.declared.tree.Stmt.{Stmt}
use Rattle.php_syntax.specs.Trees.{PlainStmts, plain_stmt, stmts_of, arms_of, plain_file}
use Rattle.php_syntax.specs.Height.{stmt_height, stmts_height, arms_height}
use Rattle.spellable.proofs.StmtHeights.{if_height, while_height, do_height, for_height, each_height, member_height, arm_height}
use Rattle.program_rules.specs.Bodies.{followed_by, with_bodies, with_bodies_in_arms}
use Rattle.program_files.specs.View.{files_of}
use Rattle.include_expansion.specs.Within.{bodies_within}
use Rattle.include_expansion.proofs.Measures.{reach_less, include_height}
use Rattle.include_expansion.proofs.ArmLemmas.{Arm, arms_then, arms_step, arms_end}
use Rattle.include_expansion.proofs.FileLemmas.{nothing_more, nothing_read, tree_is_there, expanded, body_below, stmts_step, stmts_end}
use Rattle.include_expansion.proofs.statements.+expansion.Goals as goal

pub expand_stmts-expand_stmt-requires : goal.expand_stmts-expand_stmt-requires
expand_stmts-expand_stmt-requires t c =
    let h = member_height c.args.stmts.now c.loop-stmt.stmt-index c.stmt-item.result c.loop-stmt-test.true in
    let e = ap (λ (s : Stmt). stmt_height (plain_stmt s)) c.stmt-item.is in
    (omega (arith, h, e, c.decreases), tt)

pub expand_arms-expand_body-requires : goal.expand_arms-expand_body-requires
expand_arms-expand_body-requires t c =
    let k = arm_height c.args.arms.now c.loop-arm.arm-index c.arm-item.result c.loop-arm-test.true in
    let e = ap (λ (a : Expr × Vec Stmt Global). stmts_height (stmts_of a.1.items)) c.arm-item.is in
    let s = ap (λ (a : List Stmt). stmts_height (stmts_of a)) c.as_slice.ensures.value in
    (omega (arith, k, e, s, c.decreases), tt)

pub expand_stmt-expand_arms-requires : goal.expand_stmt-expand_arms-requires
expand_stmt-expand_arms-requires t c =
    let h = if_height c.args.stmt.now c.in-If.arms c.in-If.last c.in-If.is in
    let e = ap (λ (a : List (Expr × Vec Stmt Global)). arms_height (arms_of a)) c.as_slice-in-If.ensures.value in
    (omega (arith, h, e, c.decreases), tt)

pub expand_stmt-expand_body-requires : goal.expand_stmt-expand_body-requires
expand_stmt-expand_body-requires t c =
    let h = if_height c.args.stmt.now c.in-If.arms c.in-If.last c.in-If.is in
    let f = ap (λ (a : List Stmt). stmts_height (stmts_of a)) c.as_slice-in-If-2.ensures.value in
    (omega (arith, h, f, c.decreases), tt)

pub expand_stmt-expand_body-requires-in-While : goal.expand_stmt-expand_body-requires-in-While
expand_stmt-expand_body-requires-in-While t c =
    let h = while_height c.args.stmt.now c.in-While.test c.in-While.body c.in-While.is in
    let e = ap (λ (a : List Stmt). stmts_height (stmts_of a)) c.as_slice-in-While.ensures.value in
    (omega (arith, h, e, c.decreases), tt)

pub expand_stmt-expand_body-requires-in-DoWhile : goal.expand_stmt-expand_body-requires-in-DoWhile
expand_stmt-expand_body-requires-in-DoWhile t c =
    let h = do_height c.args.stmt.now c.in-DoWhile.body c.in-DoWhile.test c.in-DoWhile.is in
    let e = ap (λ (a : List Stmt). stmts_height (stmts_of a)) c.as_slice-in-DoWhile.ensures.value in
    (omega (arith, h, e, c.decreases), tt)

pub expand_stmt-expand_body-requires-in-For : goal.expand_stmt-expand_body-requires-in-For
expand_stmt-expand_body-requires-in-For t c =
    let h = for_height c.args.stmt.now c.in-For.begin c.in-For.test c.in-For.next c.in-For.body c.in-For.is in
    let e = ap (λ (a : List Stmt). stmts_height (stmts_of a)) c.as_slice-in-For-3.ensures.value in
    (omega (arith, h, e, c.decreases), tt)

pub expand_stmt-expand_body-requires-in-Each : goal.expand_stmt-expand_body-requires-in-Each
expand_stmt-expand_body-requires-in-Each t c =
    let h = each_height c.args.stmt.now c.in-Each.array c.in-Each.key c.in-Each.value c.in-Each.body c.in-Each.is in
    let e = ap (λ (a : List Stmt). stmts_height (stmts_of a)) c.as_slice-in-Each.ensures.value in
    (omega (arith, h, e, c.decreases), tt)

pub expand_stmt-expand_file-requires : goal.expand_stmt-expand_file-requires
expand_stmt-expand_file-requires t c =
    let h : stmt_height (plain_stmt c.args.stmt.now) ≡ 1 = include_height c.args.stmt.now c.in-Include.path c.in-Include.is in
    (omega (arith, h, c.decreases), tt)

pub expand_file-expand_stmts-requires : goal.expand_file-expand_stmts-requires
expand_file-expand_stmts-requires t c =
    let files = files_of c.args.files.now in
    let own = body_below files c.in-Some.place (plain_file c.in-Some-tree.tree.now) c.in-Some-tree.ensures in
    let e = ap (λ (a : List Stmt). stmts_height (stmts_of a)) c.as_slice.ensures.value in
    let less = reach_less files c.args.nesting (c.args.nesting - 1) (omega arith) in
    (omega (arith, own, e, less, c.decreases), tt)

pub expand_file-unreachable-requires : goal.expand_file-unreachable-requires
expand_file-unreachable-requires t c = tree_is_there (files_of c.args.files.now) c.args.path.now c.in-Some.place (sym c.in-Some.ensures.place) c.in-None-tree.ensures

pub expand_file-returns-then-nesting-eq0 : goal.expand_file-returns-then-nesting-eq0
expand_file-returns-then-nesting-eq0 t c = nothing_more (files_of c.args.files.now) c.args.nesting c.args.path.now (stmts_of c.args.out.now.items) (omega arith)

pub expand_file-returns-in-None : goal.expand_file-returns-in-None
expand_file-returns-in-None t c = nothing_read (files_of c.args.files.now) c.args.nesting c.args.path.now (stmts_of c.args.out.now.items) (sym c.in-None.ensures.found)

pub expand_file-returns-in-Some-tree : goal.expand_file-returns-in-Some-tree
expand_file-returns-in-Some-tree t c =
    let files = files_of c.args.files.now in
    let e = expanded files c.args.nesting (c.args.nesting - 1) c.args.path.now c.in-Some.place (plain_file c.in-Some-tree.tree.now) (omega arith) (sym c.in-Some.ensures.place) c.in-Some-tree.ensures in
    let f : with_bodies (bodies_within files (c.args.nesting - 1)) (stmts_of c.as_slice.result.now) ≡ bodies_within files c.args.nesting c.args.path.now =
    ap (λ (ss : List Stmt). with_bodies (bodies_within files (c.args.nesting - 1)) (stmts_of ss)) c.as_slice.ensures.value ∙ sym e in
    let P : PlainStmts → Type 0 = λ ss. OnOk c.expand_stmts.result (stmts_of c.expand_stmts.new.out.items ≡ followed_by (stmts_of c.args.out.now.items) ss) in
    subst P f c.expand_stmts.ensures

pub expand_stmts-loop-stmt-preserved : goal.expand_stmts-loop-stmt-preserved
expand_stmts-loop-stmt-preserved t c =
    stmts_step (bodies_within (files_of c.args.files.now) c.args.nesting) c.args.stmts.now c.loop-stmt.stmt-index c.stmt-item.result (stmts_of c.loop-stmt.out.items) (stmts_of c.expand_stmt.new.out.items) _ c.loop-stmt-test.true c.stmt-item.is c.in_ok-expand_stmt.ensures c.loop-stmt.invariant

pub expand_stmts-returns : goal.expand_stmts-returns
expand_stmts-returns t c = stmts_end (bodies_within (files_of c.args.files.now) c.args.nesting) c.args.stmts.now c.loop-stmt.stmt-index (stmts_of c.loop-stmt.out.items) _ c.loop-stmt-test.false c.loop-stmt.invariant

pub expand_arms-loop-arm-preserved : goal.expand_arms-loop-arm-preserved
expand_arms-loop-arm-preserved t c =
    let (copy, same, pushed) = c.in_ok-put_arm.ensures in
    arms_step (bodies_within (files_of c.args.files.now) c.args.nesting) c.args.arms.now c.loop-arm.copies.items c.put_arm.new.arms.items c.loop-arm.arm-index c.arm-item.result copy c.in_ok-body.body c.loop-arm-test.true c.arm-item.is same
    (rw c.as_slice.ensures.value at c.in_ok-body.ensures) pushed c.loop-arm.invariant

pub expand_arms-loop-arm-init : goal.expand_arms-loop-arm-init
expand_arms-loop-arm-init t c = ap (λ (v : List Arm). arms_then v (with_bodies_in_arms (bodies_within (files_of c.args.files.now) c.args.nesting) (arms_of c.args.arms.now))) c.new-copies.ensures.items

pub expand_arms-returns : goal.expand_arms-returns
expand_arms-returns t c = arms_end (bodies_within (files_of c.args.files.now) c.args.nesting) c.args.arms.now c.loop-arm.copies.items c.loop-arm.arm-index c.loop-arm-test.false c.loop-arm.invariant
