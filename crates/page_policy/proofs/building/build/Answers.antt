use Rattle.std.proofs.Common.{◌≡◌, ◌<◌, ◌≤◌, ◌+◌, ◌-◌, length, arith}
use Rattle.page_policy.proofs.PutLemmas.{turn_on, turn_off, all_left, all_put}
use Rattle.page_policy.proofs.building.build.Goals as goal

pub loop-left-init : goal.loop-left-init
loop-left-init c = (omega arith, all_left c.in_ok-building.building c.args.parts.now c.in_ok-building.ensures)

pub returns-then-not-branch : goal.returns-then-not-branch
returns-then-not-branch c =
    let step : (c.loop-left.left - 1) + 1 ≡ c.loop-left.left = (let l = c.loop-left-test.true in omega (arith, l)) in
    let within : c.loop-left.left - 1 < length c.args.parts.now = (let l = c.loop-left-test.true in let w = c.loop-left.invariant.0 in omega (arith, l, w)) in
    turn_off c.loop-left.building c.put.new.self c.in_ok-put.field-0 c.args.parts.now (c.loop-left.left - 1) c.loop-left.left c.index-parts-left.result step within
    c.index-parts-left.is c.loop-left.invariant.1 c.in_ok-put.ensures c.if-not-branch.true

pub loop-left-preserved : goal.loop-left-preserved
loop-left-preserved c =
    let step : (c.loop-left.left - 1) + 1 ≡ c.loop-left.left = (let l = c.loop-left-test.true in omega (arith, l)) in
    let within : c.loop-left.left - 1 < length c.args.parts.now = (let l = c.loop-left-test.true in let w = c.loop-left.invariant.0 in omega (arith, l, w)) in (
      omega (arith, within),
      turn_on c.loop-left.building c.put.new.self c.in_ok-put.field-0 c.args.parts.now (c.loop-left.left - 1) c.loop-left.left c.index-parts-left.result step within
          c.index-parts-left.is c.loop-left.invariant.1 c.in_ok-put.ensures c.if-not-branch.false,
    )

pub returns : goal.returns
returns c =
    let none : c.loop-left.left ≡ 0 = (let l = c.loop-left-test.false in omega (arith, l)) in
    all_put c.loop-left.building c.args.parts.now c.loop-left.left c.finish.result none c.loop-left.invariant.1 c.finish.ensures
