use Rattle.std.proofs.Common.{◌<◌, ◌≤◌, length, sym, arith}
use Rattle.page_policy.proofs.RangeLemmas.{so_far_begun, so_far_more, so_far_ended, so_far_failed}
use Rattle.page_policy.proofs.parts.ranges_at.Goals as goal

pub loop-range-init : goal.loop-range-init
loop-range-init c = (so_far_begun c.args.bytes.now c.empty-set.result c.empty-set.ensures, omega arith)

pub returns-in-Some-behind_set-clause-some : goal.returns-in-Some-behind_set-clause-some
returns-in-Some-behind_set-clause-some c =
    so_far_ended c.args.bytes.now c.loop-range.set c.add.new.self c.loop-range.rest.now c.in-Some.others.now c.in-Some-behind_set.behind.now c.in-Some.range.lo c.in-Some.range.hi
    c.loop-range.invariant.0 (sym c.in-Some.ensures.value) c.add.ensures c.in-Some-behind_set.ensures

pub loop-range-preserved : goal.loop-range-preserved
loop-range-preserved c =
    let behind : length c.in-Some.others.now < length c.loop-range.rest.now = c.in-Some.ensures.behind in
    let within : length c.loop-range.rest.now ≤ length c.args.bytes.now = c.loop-range.invariant.1 in (
      so_far_more c.args.bytes.now c.loop-range.set c.add.new.self c.loop-range.rest.now c.in-Some.others.now c.in-Some.range.lo c.in-Some.range.hi
          c.loop-range.invariant.0 (sym c.in-Some.ensures.value) c.add.ensures c.in_default-behind_set.ensures,
      omega (arith, behind, within),
    )

pub returns-clause-none : goal.returns-clause-none
returns-clause-none c = so_far_failed c.args.bytes.now c.loop-range.set c.loop-range.rest.now c.loop-range.invariant.0 c.in_default.ensures.value
