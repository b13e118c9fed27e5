use Rattle.std.proofs.Common.{◌∙◌, refl, ap, arith, sym}
use Rattle.std.specs.declared.vec.Vec.{Vec}
use Rattle.std.specs.declared.alloc.Global.{Global}
use Rattle.php_syntax.specs.declared.tree.Stmt.{Stmt}
use Rattle.php_syntax.specs.Trees.{stmts_of, arms_of}
use Rattle.php_syntax.specs.Height.{stmts_height, arms_height}
use Rattle.program_files.specs.Steps.{placed_include}
use Rattle.spellable.proofs.StmtHeights.{if_height, while_height, do_height, for_height, each_height}
use Rattle.program_files.proofs.Visits.{Arm, none_visited, no_arms_visited, next_visited, next_arm_visited, all_visited, all_arms_visited, next_height, next_arm_height, later_same, same_size}
use Rattle.program_files.proofs.naming.+naming.Goals as goal

pub name_in-loop-place-init : goal.name_in-loop-place-init
name_in-loop-place-init t c = (none_visited (placed_include c.args.naming.now.names.now.keys c.args.naming.now.main.now c.args.naming.now.file.now) c.args.stmts.now.items, (refl, λ k d le. refl))

pub name_in-name_of-requires : goal.name_in-name_of-requires
name_in-name_of-requires t c =
    let i = c.loop-place.invariant.1 in
    let h = next_height c.args.stmts.now.items c.loop-place.stmts.items c.loop-place.place c.index_mut.result.now (omega (arith, c.loop-place-test.true, i.0, c.len-place-end.ensures)) i.0 i.1 c.index_mut.ensures.value in
    (omega (arith, h, c.decreases), tt)

pub name_in-loop-place-preserved : goal.name_in-loop-place-preserved
name_in-loop-place-preserved t c =
    let i = c.loop-place.invariant.1 in (
      next_visited (placed_include c.args.naming.now.names.now.keys c.args.naming.now.main.now c.args.naming.now.file.now) c.loop-place.place c.loop-place.stmts.items c.index_mut.result.now c.name_of.new.stmt (omega (arith, c.loop-place-test.true, i.0, c.len-place-end.ensures)) c.index_mut.ensures.value c.in_ok-name_of.ensures
          ∙ c.loop-place.invariant.0,
      (same_size c.loop-place.stmts.items c.loop-place.place c.name_of.new.stmt ∙ i.0, later_same c.args.stmts.now.items c.loop-place.stmts.items c.loop-place.place c.name_of.new.stmt i.1),
    )

pub name_in-returns : goal.name_in-returns
name_in-returns t c =
    sym (all_visited (placed_include c.args.naming.now.names.now.keys c.args.naming.now.main.now c.args.naming.now.file.now) c.loop-place.place c.loop-place.stmts.items (omega (arith, c.loop-place-test.false, c.loop-place.invariant.1.0, c.len-place-end.ensures))) ∙ c.loop-place.invariant.0

pub name_in_arms-loop-place-init : goal.name_in_arms-loop-place-init
name_in_arms-loop-place-init t c = (no_arms_visited (placed_include c.args.naming.now.names.now.keys c.args.naming.now.main.now c.args.naming.now.file.now) c.args.arms.now.items, (refl, λ k d le. refl))

pub name_in_arms-name_in-requires : goal.name_in_arms-name_in-requires
name_in_arms-name_in-requires t c =
    let i = c.loop-place.invariant.1 in
    let h = next_arm_height c.args.arms.now.items c.loop-place.arms.items c.loop-place.place c.index_mut.result.now (omega (arith, c.loop-place-test.true, i.0, c.len-place-end.ensures)) i.0 i.1 c.index_mut.ensures.value in
    (omega (arith, h, c.decreases), tt)

pub name_in_arms-loop-place-preserved : goal.name_in_arms-loop-place-preserved
name_in_arms-loop-place-preserved t c =
    let i = c.loop-place.invariant.1 in (
      next_arm_visited (placed_include c.args.naming.now.names.now.keys c.args.naming.now.main.now c.args.naming.now.file.now) c.loop-place.place c.loop-place.arms.items c.index_mut.result.now c.name_in.new.stmts (omega (arith, c.loop-place-test.true, i.0, c.len-place-end.ensures)) c.index_mut.ensures.value c.in_ok-name_in.ensures
          ∙ c.loop-place.invariant.0,
      (same_size c.loop-place.arms.items c.loop-place.place (c.index_mut.result.now.0, c.name_in.new.stmts) ∙ i.0, later_same c.args.arms.now.items c.loop-place.arms.items c.loop-place.place (c.index_mut.result.now.0, c.name_in.new.stmts) i.1),
    )

pub name_in_arms-returns : goal.name_in_arms-returns
name_in_arms-returns t c =
    sym (all_arms_visited (placed_include c.args.naming.now.names.now.keys c.args.naming.now.main.now c.args.naming.now.file.now) c.loop-place.place c.loop-place.arms.items (omega (arith, c.loop-place-test.false, c.loop-place.invariant.1.0, c.len-place-end.ensures))) ∙ c.loop-place.invariant.0

pub name_of-name_in_arms-requires : goal.name_of-name_in_arms-requires
name_of-name_in_arms-requires t c =
    let h = if_height c.args.stmt.now c.in-If.arms c.in-If.otherwise c.in-If.is in
    let e = ap (λ (v : Vec Arm Global). arms_height (arms_of v.items)) c.in-If.arms-is in
    (omega (arith, h, e, c.decreases), tt)

pub name_of-name_in-requires : goal.name_of-name_in-requires
name_of-name_in-requires t c =
    let h = if_height c.args.stmt.now c.in-If.arms c.in-If.otherwise c.in-If.is in
    let e = ap (λ (v : Vec Stmt Global). stmts_height (stmts_of v.items)) c.in-If.otherwise-is in
    (omega (arith, h, e, c.decreases), tt)

pub name_of-name_in-requires-in-While : goal.name_of-name_in-requires-in-While
name_of-name_in-requires-in-While t c =
    let h = while_height c.args.stmt.now c.in-While.test c.in-While.body c.in-While.is in
    let e = ap (λ (v : Vec Stmt Global). stmts_height (stmts_of v.items)) c.in-While.body-is in
    (omega (arith, h, e, c.decreases), tt)

pub name_of-name_in-requires-in-DoWhile : goal.name_of-name_in-requires-in-DoWhile
name_of-name_in-requires-in-DoWhile t c =
    let h = do_height c.args.stmt.now c.in-DoWhile.body c.in-DoWhile.test c.in-DoWhile.is in
    let e = ap (λ (v : Vec Stmt Global). stmts_height (stmts_of v.items)) c.in-DoWhile.body-is in
    (omega (arith, h, e, c.decreases), tt)

pub name_of-name_in-requires-in-For : goal.name_of-name_in-requires-in-For
name_of-name_in-requires-in-For t c =
    let h = for_height c.args.stmt.now c.in-For.begin c.in-For.test c.in-For.next c.in-For.body c.in-For.is in
    let e = ap (λ (v : Vec Stmt Global). stmts_height (stmts_of v.items)) c.in-For.body-is in
    (omega (arith, h, e, c.decreases), tt)

pub name_of-name_in-requires-in-Each : goal.name_of-name_in-requires-in-Each
name_of-name_in-requires-in-Each t c =
    let h = each_height c.args.stmt.now c.in-Each.array c.in-Each.key c.in-Each.value c.in-Each.body c.in-Each.is in
    let e = ap (λ (v : Vec Stmt Global). stmts_height (stmts_of v.items)) c.in-Each.body-is in
    (omega (arith, h, e, c.decreases), tt)
