use Rattle.std.proofs.Common.{◌≡◌, take}
use Rattle.tag_sums.specs.Sum.{some_move}
use Rattle.segment_summary.proofs.meet.has_move.Given as goal

abbrev pub invariant-loop-to : goal.invariant-loop-to
invariant-loop-to l = l.found ≡ some_move (take l.to-index l.map)
