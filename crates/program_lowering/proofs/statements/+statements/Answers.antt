use Rattle.std.proofs.Common.{◌≡◌, refl, ◌∙◌, sym, Bool, true, false, ◌&&◌, ◌||◌, List, subst, ap, arith}
use Rattle.std.specs.declared.vec.Vec.{Vec}
use Rattle.std.specs.declared.alloc.Global.{Global}
use Rattle.php_syntax.specs.declared.tree.Expr.{Expr}
use Rattle.php_syntax.specs.declared.tree.Stmt.{Stmt}
use Rattle.php_syntax.specs.Trees.{plain_expr, plain_stmt, stmts_of, arms_of, exprs_of, maybe_of, inline_stmt, echo_stmt, run_stmt, if_stmt, while_stmt, do_while_stmt, for_stmt, each_stmt, break_stmt, continue_stmt, return_stmt, include_stmt, quit_stmt}
use Rattle.php_syntax.proofs.Views.{plain_stmt-Inline, plain_stmt-Echo, plain_stmt-Run, plain_stmt-If, plain_stmt-While, plain_stmt-DoWhile, plain_stmt-For, plain_stmt-Each, plain_stmt-Break, plain_stmt-Continue, plain_stmt-Return, plain_stmt-Include, plain_stmt-Quit}
use Rattle.php_syntax.specs.Height.{stmt_height, stmts_height, arms_height}
use Rattle.spellable.proofs.StmtHeights.{if_height, while_height, do_height, for_height, each_height, member_height, arm_height}
use Rattle.flow_code.specs.Code.{no_block}
use Rattle.flow_code.specs.Expressions.{code, variable}
use Rattle.flow_code.specs.View.{maybe_slot}
use Rattle.flow_code.specs.Completion.{completes}
use Rattle.flow_code.specs.Statements.{stmt_block, block, echo_block, looping, repeating, walking, test_of, test_code, key_variable}
use Rattle.flow_lowering.specs.View.{progress}
use Rattle.flow_lowering.specs.Blocks.{Drafts}
use Rattle.flow_lowering.specs.ScopeView.{scope_in}
use Rattle.flow_lowering.proofs.EmitLemmas.{puts_length, emits_place}
use Rattle.flow_lowering.proofs.BlockLemmas.{drafts_of, drafts_none, lays_before, lays_run}
use Rattle.flow_lowering.proofs.LoopLemmas.{lays_looping, lays_repeating, lays_walking}
use Rattle.program_lowering.proofs.RowBlocks.{from_none, led_none, not_off, not_on, and_true, so_far_further, so_far_cut, so_far_end, stmts_further, stmts_cut, stmts_end, puts_jump_long, arm_by, arm_is, arms_so_far_further, arms_so_far_end, arms_further, arms_end, by_stmt, for_of, if_of, each_of}
use Rattle.program_lowering.proofs.statements.+statements.Goals as goal

pub lower_stmts-loop-stmt-init : goal.lower_stmts-loop-stmt-init
lower_stmts-loop-stmt-init t c = record { on = refl; ways = record { completes_are = refl; jumps_are = refl }; points = λ s last d. d }

pub lower_stmts-loop-stmt-preserved : goal.lower_stmts-loop-stmt-preserved
lower_stmts-loop-stmt-preserved t c =
    let w = scope_in c.args.scope.now in
    let ss = c.args.stmts.now in
    let i = c.loop-stmt.stmt-index in
    let on : c.then-ways.result.completes ≡ true = not_off c.then-ways.result.completes c.if-not-ways.false in
    let here : completes (plain_stmt c.stmt-item.result) ≡ true =
    sym c.in_ok-next.ensures.completes ∙ sym (and_true c.loop-stmt.ways.completes c.in_ok-next.next.completes c.loop-stmt.invariant.on) ∙ sym c.then-ways.ensures.completes ∙ on in
    let jumps = c.then-ways.ensures.jumps ∙ ap (λ (v : Bool). c.loop-stmt.ways.jumps_out || (c.loop-stmt.ways.completes && v)) c.in_ok-next.ensures.jumps in
    record {
      on = on;
      ways = so_far_further ss i c.stmt-item.result c.loop-stmt-test.true c.stmt-item.is here c.loop-stmt.invariant.on jumps c.loop-stmt.invariant.ways;
      points = stmts_further w ss i c.stmt-item.result c.loop-stmt-test.true c.stmt-item.is here c.in_ok-next.ensures.points c.loop-stmt.invariant.points;
    }

pub lower_stmts-returns-then-not-ways-clause-points : goal.lower_stmts-returns-then-not-ways-clause-points
lower_stmts-returns-then-not-ways-clause-points t c =
    let here : completes (plain_stmt c.stmt-item.result) ≡ false =
    sym c.in_ok-next.ensures.completes ∙ sym (and_true c.loop-stmt.ways.completes c.in_ok-next.next.completes c.loop-stmt.invariant.on) ∙ sym c.then-ways.ensures.completes ∙ not_on c.then-ways.result.completes c.if-not-ways.true in
    stmts_cut (scope_in c.args.scope.now) c.args.stmts.now c.loop-stmt.stmt-index c.stmt-item.result c.loop-stmt-test.true c.stmt-item.is here c.in_ok-next.ensures.points c.loop-stmt.invariant.points

pub lower_stmts-returns-then-not-ways-clause-completes : goal.lower_stmts-returns-then-not-ways-clause-completes
lower_stmts-returns-then-not-ways-clause-completes t c =
    let off : c.then-ways.result.completes ≡ false = not_on c.then-ways.result.completes c.if-not-ways.true in
    let here : completes (plain_stmt c.stmt-item.result) ≡ false =
    sym c.in_ok-next.ensures.completes ∙ sym (and_true c.loop-stmt.ways.completes c.in_ok-next.next.completes c.loop-stmt.invariant.on) ∙ sym c.then-ways.ensures.completes ∙ off in
    let jumps = c.then-ways.ensures.jumps ∙ ap (λ (v : Bool). c.loop-stmt.ways.jumps_out || (c.loop-stmt.ways.completes && v)) c.in_ok-next.ensures.jumps in
    off ∙ (so_far_cut c.args.stmts.now c.loop-stmt.stmt-index c.stmt-item.result c.loop-stmt-test.true c.stmt-item.is here c.loop-stmt.invariant.on jumps c.loop-stmt.invariant.ways).0

pub lower_stmts-returns-then-not-ways-clause-jumps : goal.lower_stmts-returns-then-not-ways-clause-jumps
lower_stmts-returns-then-not-ways-clause-jumps t c =
    let here : completes (plain_stmt c.stmt-item.result) ≡ false =
    sym c.in_ok-next.ensures.completes ∙ sym (and_true c.loop-stmt.ways.completes c.in_ok-next.next.completes c.loop-stmt.invariant.on) ∙ sym c.then-ways.ensures.completes ∙ not_on c.then-ways.result.completes c.if-not-ways.true in
    let jumps = c.then-ways.ensures.jumps ∙ ap (λ (v : Bool). c.loop-stmt.ways.jumps_out || (c.loop-stmt.ways.completes && v)) c.in_ok-next.ensures.jumps in
    (so_far_cut c.args.stmts.now c.loop-stmt.stmt-index c.stmt-item.result c.loop-stmt-test.true c.stmt-item.is here c.loop-stmt.invariant.on jumps c.loop-stmt.invariant.ways).1

pub lower_stmts-returns-clause-points : goal.lower_stmts-returns-clause-points
lower_stmts-returns-clause-points t c = stmts_end (scope_in c.args.scope.now) c.args.stmts.now c.loop-stmt.stmt-index c.loop-stmt-test.false c.loop-stmt.invariant.points

pub lower_stmts-returns-clause-completes : goal.lower_stmts-returns-clause-completes
lower_stmts-returns-clause-completes t c = c.loop-stmt.invariant.on ∙ (so_far_end c.args.stmts.now c.loop-stmt.stmt-index c.loop-stmt-test.false c.loop-stmt.invariant.ways).0

pub lower_stmts-returns-clause-jumps : goal.lower_stmts-returns-clause-jumps
lower_stmts-returns-clause-jumps t c = (so_far_end c.args.stmts.now c.loop-stmt.stmt-index c.loop-stmt-test.false c.loop-stmt.invariant.ways).1

pub lower_arm-returns-clause-points : goal.lower_arm-returns-clause-points
lower_arm-returns-clause-points t c = λ s last rest d.
    arm_by (code (scope_in c.args.scope.now) (plain_expr c.args.test.now)) (block (scope_in c.args.scope.now) (stmts_of c.args.body.now)) rest c.in_ok-ways.ensures.completes
    (arm_is c.in_ok-ways.ways.completes c.in_ok-slot.ensures c.in_ok-branch.ensures c.in_ok-ways.ensures.points c.in_ok-put_jump.ensures c.place-no.ensures c.replace.ensures d)

pub lower_if-loop-arm-preserved : goal.lower_if-loop-arm-preserved
lower_if-loop-arm-preserved t c =
    let w = scope_in c.args.scope.now in
    let arms = c.args.arms.now in
    let other = c.args.otherwise.now in
    let i = c.loop-arm.arm-index in
    record {
      ways = arms_so_far_further arms other i c.arm-item.result c.as_slice-body.result.now c.loop-arm-test.true c.arm-item.is c.as_slice-body.ensures.value c.in_ok-next.ensures.completes c.in_ok-next.ensures.jumps
          c.beside-ways.ensures.completes c.beside-ways.ensures.jumps c.loop-arm.invariant.ways;
      points = arms_further w arms (block w (stmts_of other)) i c.arm-item.result c.as_slice-body.result.now c.loop-arm.jumps.items c.lower_arm.new.jumps.items
          c.loop-arm-test.true c.arm-item.is c.as_slice-body.ensures.value c.in_ok-next.ensures.points c.loop-arm.invariant.points;
    }

pub lower_if-returns-clause-points : goal.lower_if-returns-clause-points
lower_if-returns-clause-points t c =
    arms_end (scope_in c.args.scope.now) c.args.arms.now (block (scope_in c.args.scope.now) (stmts_of c.args.otherwise.now)) c.loop-arm.arm-index c.loop-arm.jumps.items c.place-stop.result.0
    c.loop-arm-test.false c.loop-arm.invariant.points c.in_ok-last.ensures.points c.place-stop.ensures c.fill_exits.ensures

pub lower_if-returns-clause-completes : goal.lower_if-returns-clause-completes
lower_if-returns-clause-completes t c =
    c.beside.ensures.completes ∙ (arms_so_far_end c.args.arms.now c.args.otherwise.now c.loop-arm.arm-index c.loop-arm-test.false c.in_ok-last.ensures.completes c.in_ok-last.ensures.jumps c.loop-arm.invariant.ways).0

pub lower_if-returns-clause-jumps : goal.lower_if-returns-clause-jumps
lower_if-returns-clause-jumps t c =
    c.beside.ensures.jumps ∙ (arms_so_far_end c.args.arms.now c.args.otherwise.now c.loop-arm.arm-index c.loop-arm-test.false c.in_ok-last.ensures.completes c.in_ok-last.ensures.jumps c.loop-arm.invariant.ways).1

pub lower_if-loop-arm-init : goal.lower_if-loop-arm-init
lower_if-loop-arm-init t c = record { ways = record { completes_are = refl; jumps_are = refl }; points = λ s last d. led_none c.new-jumps.ensures.items d }

pub lower_turns-returns : goal.lower_turns-returns
lower_turns-returns t c = λ start test o at. lays_looping o (from_none c.new-exits.ensures.items c.in_ok-lower_stmts.ensures.points) (lays_run c.in_ok-lower_exprs.ensures.emits) c.in_ok-end_loop.ensures at c.place-again.ensures

pub lower_do-returns : goal.lower_do-returns
lower_do-returns t c = lays_repeating (from_none c.new-exits.ensures.items c.in_ok-lower_stmts.ensures.points) c.in_ok-slot.ensures c.in_ok-end_loop.ensures c.place-yes.ensures c.ahead-no.ensures c.place-again.ensures

pub lower_stmts-lower_stmt-requires : goal.lower_stmts-lower_stmt-requires
lower_stmts-lower_stmt-requires t c =
    let h = member_height c.args.stmts.now c.loop-stmt.stmt-index c.stmt-item.result c.loop-stmt-test.true in
    let e = ap (λ (s : Stmt). stmt_height (plain_stmt s)) c.stmt-item.is in
    (omega (arith, h, e, c.decreases), tt)

pub lower_stmt-lower_if-requires : goal.lower_stmt-lower_if-requires
lower_stmt-lower_if-requires t c =
    let h = if_height c.args.stmt.now c.in-If.arms c.in-If.otherwise c.in-If.is in
    let e = ap (λ (a : List (Expr × Vec Stmt Global)). arms_height (arms_of a)) c.as_slice-in-If.ensures.value in
    let f = ap (λ (a : List Stmt). stmts_height (stmts_of a)) c.as_slice-in-If-2.ensures.value in
    (omega (arith, h, e, f, c.decreases), tt)

pub lower_if-lower_arm-requires : goal.lower_if-lower_arm-requires
lower_if-lower_arm-requires t c =
    let k = arm_height c.args.arms.now c.loop-arm.arm-index c.arm-item.result c.loop-arm-test.true in
    let e = ap (λ (a : Expr × Vec Stmt Global). stmts_height (stmts_of a.1.items)) c.arm-item.is in
    let f = ap (λ (a : List Stmt). stmts_height (stmts_of a)) c.as_slice-body.ensures.value in
    (omega (arith, k, e, f, c.decreases), tt)

pub lower_stmt-lower_while-requires : goal.lower_stmt-lower_while-requires
lower_stmt-lower_while-requires t c =
    let h = while_height c.args.stmt.now c.in-While.test c.in-While.body c.in-While.is in
    let e = ap (λ (a : List Stmt). stmts_height (stmts_of a)) c.as_slice-in-While.ensures.value in
    (omega (arith, h, e, c.decreases), tt)

pub lower_stmt-lower_do-requires : goal.lower_stmt-lower_do-requires
lower_stmt-lower_do-requires t c =
    let h = do_height c.args.stmt.now c.in-DoWhile.body c.in-DoWhile.test c.in-DoWhile.is in
    let e = ap (λ (a : List Stmt). stmts_height (stmts_of a)) c.as_slice-in-DoWhile.ensures.value in
    (omega (arith, h, e, c.decreases), tt)

pub lower_stmt-lower_for-requires : goal.lower_stmt-lower_for-requires
lower_stmt-lower_for-requires t c =
    let h = for_height c.args.stmt.now c.in-For.begin c.in-For.test c.in-For.next c.in-For.body c.in-For.is in
    let e = ap (λ (a : List Stmt). stmts_height (stmts_of a)) c.as_slice-in-For.ensures.value in
    (omega (arith, h, e, c.decreases), tt)

pub lower_stmt-lower_each-requires : goal.lower_stmt-lower_each-requires
lower_stmt-lower_each-requires t c =
    let h = each_height c.args.stmt.now c.in-Each.array c.in-Each.key c.in-Each.value c.in-Each.body c.in-Each.is in
    let e = ap (λ (a : List Stmt). stmts_height (stmts_of a)) c.as_slice-in-Each.ensures.value in
    (omega (arith, h, e, c.decreases), tt)

pub lower_arm-replace-requires : goal.lower_arm-replace-requires
lower_arm-replace-requires t c =
    omega (arith, c.in_ok-branch.ensures.index_is, puts_length c.in_ok-branch.ensures.puts, puts_length c.in_ok-ways.ensures.points.puts, puts_jump_long (progress c.lower_stmts.new.points) (progress c.put_jump.new.points) c.args.jumps.now.items c.put_jump.new.jumps.items c.in_ok-ways.ways.completes c.in_ok-put_jump.ensures)

pub lower_stmt-returns-in_ok-lower_inline-in-Inline-clause-points : goal.lower_stmt-returns-in_ok-lower_inline-in-Inline-clause-points
unfolding stmt_block
lower_stmt-returns-in_ok-lower_inline-in-Inline-clause-points t c =
    by_stmt (scope_in c.args.scope.now) (plain_stmt c.args.stmt.now) (inline_stmt c.in-Inline.bytes) (ap plain_stmt c.in-Inline.is ∙ plain_stmt-Inline c.in-Inline.bytes)
    (drafts_of c.args.exits.now.items c.in_ok-lower_inline-in-Inline.ensures)

pub lower_stmt-returns-in_ok-lower_run-in-Run-clause-points : goal.lower_stmt-returns-in_ok-lower_run-in-Run-clause-points
unfolding stmt_block
lower_stmt-returns-in_ok-lower_run-in-Run-clause-points t c =
    by_stmt (scope_in c.args.scope.now) (plain_stmt c.args.stmt.now) (run_stmt (plain_expr c.in-Run.expr)) (ap plain_stmt c.in-Run.is ∙ plain_stmt-Run c.in-Run.expr)
    (drafts_of c.args.exits.now.items c.in_ok-lower_run-in-Run.ensures)

pub lower_stmt-returns-in_ok-lower_return-in-Return-clause-points : goal.lower_stmt-returns-in_ok-lower_return-in-Return-clause-points
unfolding stmt_block
lower_stmt-returns-in_ok-lower_return-in-Return-clause-points t c =
    by_stmt (scope_in c.args.scope.now) (plain_stmt c.args.stmt.now) (return_stmt (maybe_of c.in-Return.value)) (ap plain_stmt c.in-Return.is ∙ plain_stmt-Return c.in-Return.value)
    (drafts_of c.args.exits.now.items c.in_ok-lower_return-in-Return.ensures)

pub lower_stmt-returns-in_ok-lower_quit-in-Quit-clause-points : goal.lower_stmt-returns-in_ok-lower_quit-in-Quit-clause-points
unfolding stmt_block
lower_stmt-returns-in_ok-lower_quit-in-Quit-clause-points t c =
    by_stmt (scope_in c.args.scope.now) (plain_stmt c.args.stmt.now) (quit_stmt (maybe_of c.in-Quit.value)) (ap plain_stmt c.in-Quit.is ∙ plain_stmt-Quit c.in-Quit.value)
    (drafts_of c.args.exits.now.items c.in_ok-lower_quit-in-Quit.ensures)

pub lower_stmt-returns-in_ok-lower_echo-in-Echo-clause-points : goal.lower_stmt-returns-in_ok-lower_echo-in-Echo-clause-points
unfolding stmt_block
lower_stmt-returns-in_ok-lower_echo-in-Echo-clause-points t c =
    by_stmt (scope_in c.args.scope.now) (plain_stmt c.args.stmt.now) (echo_stmt (exprs_of c.in-Echo.exprs.items)) (ap plain_stmt c.in-Echo.is ∙ plain_stmt-Echo c.in-Echo.exprs)
    (subst (λ (a : List Expr). Drafts (progress c.args.points.now) (progress c.lower_echo.new.points) c.args.exits.now.items c.args.exits.now.items (echo_block (scope_in c.args.scope.now) (exprs_of a))) c.as_slice.ensures.value
    (drafts_of c.args.exits.now.items c.in_ok-lower_echo-in-Echo.ensures))

pub lower_stmt-returns-in_ok-lower_while-in-While-clause-points : goal.lower_stmt-returns-in_ok-lower_while-in-While-clause-points
unfolding stmt_block
lower_stmt-returns-in_ok-lower_while-in-While-clause-points t c =
    by_stmt (scope_in c.args.scope.now) (plain_stmt c.args.stmt.now) (while_stmt (plain_expr c.in-While.test) (stmts_of c.in-While.body.items)) (ap plain_stmt c.in-While.is ∙ plain_stmt-While c.in-While.test c.in-While.body)
    (subst (λ (a : List Stmt). Drafts (progress c.args.points.now) (progress c.lower_while.new.points) c.args.exits.now.items c.args.exits.now.items (looping (test_of (code (scope_in c.args.scope.now) (plain_expr c.in-While.test))) (block (scope_in c.args.scope.now) (stmts_of a)) no_block)) c.as_slice-in-While.ensures.value
    (drafts_of c.args.exits.now.items c.in_ok-lower_while-in-While.ensures))

pub lower_stmt-returns-in_ok-lower_do-in-DoWhile-clause-points : goal.lower_stmt-returns-in_ok-lower_do-in-DoWhile-clause-points
unfolding stmt_block
lower_stmt-returns-in_ok-lower_do-in-DoWhile-clause-points t c =
    by_stmt (scope_in c.args.scope.now) (plain_stmt c.args.stmt.now) (do_while_stmt (stmts_of c.in-DoWhile.body.items) (plain_expr c.in-DoWhile.test)) (ap plain_stmt c.in-DoWhile.is ∙ plain_stmt-DoWhile c.in-DoWhile.body c.in-DoWhile.test)
    (subst (λ (a : List Stmt). Drafts (progress c.args.points.now) (progress c.lower_do.new.points) c.args.exits.now.items c.args.exits.now.items (repeating (block (scope_in c.args.scope.now) (stmts_of a)) (code (scope_in c.args.scope.now) (plain_expr c.in-DoWhile.test)))) c.as_slice-in-DoWhile.ensures.value
    (drafts_of c.args.exits.now.items c.in_ok-lower_do-in-DoWhile.ensures))

pub lower_stmt-returns-in_ok-lower_each-in-Each-clause-points : goal.lower_stmt-returns-in_ok-lower_each-in-Each-clause-points
unfolding stmt_block
lower_stmt-returns-in_ok-lower_each-in-Each-clause-points t c =
    by_stmt (scope_in c.args.scope.now) (plain_stmt c.args.stmt.now) (each_stmt (plain_expr c.in-Each.array) c.in-Each.key c.in-Each.value (stmts_of c.in-Each.body.items)) (ap plain_stmt c.in-Each.is ∙ plain_stmt-Each c.in-Each.array c.in-Each.key c.in-Each.value c.in-Each.body)
    (subst (λ (a : List Stmt). Drafts (progress c.args.points.now) (progress c.lower_each.new.points) c.args.exits.now.items c.args.exits.now.items (walking (code (scope_in c.args.scope.now) (plain_expr c.in-Each.array)) (key_variable (scope_in c.args.scope.now) c.in-Each.key) (variable (scope_in c.args.scope.now) c.in-Each.value) (block (scope_in c.args.scope.now) (stmts_of a)))) c.as_slice-in-Each.ensures.value
    (drafts_of c.args.exits.now.items c.in_ok-lower_each-in-Each.ensures))

pub lower_stmt-returns-in_ok-lower_for-in-For-clause-points : goal.lower_stmt-returns-in_ok-lower_for-in-For-clause-points
unfolding stmt_block
lower_stmt-returns-in_ok-lower_for-in-For-clause-points t c =
    let w = scope_in c.args.scope.now in
    let a = c.in-For in
    let made = drafts_of c.args.exits.now.items c.in_ok-lower_for-in-For.ensures in
    by_stmt w (plain_stmt c.args.stmt.now) (for_stmt (exprs_of a.begin.items) (maybe_of a.test) (exprs_of a.next.items) (stmts_of a.body.items)) (ap plain_stmt a.is ∙ plain_stmt-For a.begin a.test a.next a.body)
    (for_of w (maybe_of a.test) c.as_slice-begin.ensures.value c.as_slice-next.ensures.value c.as_slice-in-For.ensures.value made)

pub lower_stmt-returns-in_ok-put_break-in-Break-clause-points : goal.lower_stmt-returns-in_ok-put_break-in-Break-clause-points
unfolding stmt_block
lower_stmt-returns-in_ok-put_break-in-Break-clause-points t c =
    by_stmt (scope_in c.args.scope.now) (plain_stmt c.args.stmt.now) break_stmt (ap plain_stmt c.in-Break.is ∙ plain_stmt-Break) c.in_ok-put_break-in-Break.ensures

pub lower_stmt-returns-in_ok-put_continue-in-Continue-clause-points : goal.lower_stmt-returns-in_ok-put_continue-in-Continue-clause-points
unfolding stmt_block
lower_stmt-returns-in_ok-put_continue-in-Continue-clause-points t c =
    by_stmt (scope_in c.args.scope.now) (plain_stmt c.args.stmt.now) continue_stmt (ap plain_stmt c.in-Continue.is ∙ plain_stmt-Continue) c.in_ok-put_continue-in-Continue.ensures

pub lower_while-returns : goal.lower_while-returns
unfolding code
lower_while-returns t c = c.in_ok-lower_turns.ensures (progress c.args.points.now) (test_of (code (scope_in c.args.scope.now) (plain_expr c.args.test.now))) c.in_ok-head.ensures c.place-back.ensures

pub lower_for-returns : goal.lower_for-returns
lower_for-returns t c =
    lays_before (lays_run c.in_ok-lower_exprs.ensures.emits)
    (c.in_ok-lower_turns.ensures (progress c.lower_exprs.new.points) (test_code (scope_in c.args.scope.now) (maybe_of c.args.test.now)) c.in_ok-head.ensures c.place-back.ensures)

pub lower_each-returns : goal.lower_each-returns
lower_each-returns t c =
    let w = scope_in c.args.scope.now in
    let start = progress c.args.points.now in
    let a = code w (plain_expr c.args.array.now) in
    let opens = c.in_ok-head.ensures.opens start a c.in_ok-from.ensures in
    let here = lays_walking a (maybe_slot c.key_slot-key.result) c.variable-value.result.0 opens (from_none c.new-exits.ensures.items c.in_ok-lower_stmts.ensures.points) c.in_ok-end_loop.ensures (omega (arith, c.in_ok-head.ensures.again, emits_place c.in_ok-from.ensures)) in
    each_of w a (block w (stmts_of c.args.body.now)) c.args.key.now c.args.value.now c.key_slot-key.ensures c.variable-value.ensures here

pub lower_stmt-returns-in-Include-clause-points : goal.lower_stmt-returns-in-Include-clause-points
unfolding stmt_block
lower_stmt-returns-in-Include-clause-points t c =
    by_stmt (scope_in c.args.scope.now) (plain_stmt c.args.stmt.now) (include_stmt c.in-Include.field-0) (ap plain_stmt c.in-Include.is ∙ plain_stmt-Include c.in-Include.field-0)
    (drafts_none (progress c.args.points.now) c.args.exits.now.items)

pub lower_stmt-returns-in_ok-ways-in-If-clause-points : goal.lower_stmt-returns-in_ok-ways-in-If-clause-points
unfolding stmt_block
lower_stmt-returns-in_ok-ways-in-If-clause-points t c =
    let w = scope_in c.args.scope.now in
    by_stmt w (plain_stmt c.args.stmt.now) (if_stmt (arms_of c.in-If.arms.items) (stmts_of c.in-If.otherwise.items)) (ap plain_stmt c.in-If.is ∙ plain_stmt-If c.in-If.arms c.in-If.otherwise)
    (if_of w c.as_slice-in-If.ensures.value c.as_slice-in-If-2.ensures.value c.in_ok-ways-in-If.ensures.points)

pub lower_if-lower_stmts-requires : goal.lower_if-lower_stmts-requires
lower_if-lower_stmts-requires t c = (omega (arith, c.decreases), tt)
