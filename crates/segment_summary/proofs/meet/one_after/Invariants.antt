use Rattle.std.proofs.Common.{◌≡◌, take}
use Rattle.tag_sums.specs.Sum.{after}
use Rattle.segment_summary.proofs.meet.one_after.Given as goal

abbrev pub invariant-loop-to : goal.invariant-loop-to
invariant-loop-to l = l.map.items ≡ after (take l.to-index l.first) l.second
