use Rattle.std.proofs.Common.{◌<◌, ◌≤◌, length, arith}
use Rattle.page_policy.proofs.CutLemmas.{cut_more, cut_done}
use Rattle.page_policy.proofs.cutting.cut.Goals as goal

pub loop-part-preserved : goal.loop-part-preserved
loop-part-preserved c =
    let behind : length c.in-Some.others.now < length c.loop-part.rest.now = c.in-Some.ensures.behind in
    let within : length c.loop-part.rest.now ≤ length c.args.file.now = c.loop-part.invariant.1 in (
      cut_more c.args.file.now c.loop-part.rest.now c.in-Some.others.now c.loop-part.items.items c.push.new.self.items c.in-Some.part c.loop-part.invariant.0 c.in-Some.ensures.some
          c.in_ok-push.ensures.items,
      omega (arith, behind, within),
    )

pub returns : goal.returns
returns c = cut_done c.args.file.now c.loop-part.rest.now c.loop-part.items.items c.is_empty.result c.loop-part.invariant.0 c.in_default.ensures.none c.is_empty.ensures
