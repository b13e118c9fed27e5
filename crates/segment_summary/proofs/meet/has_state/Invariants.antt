use Rattle.std.proofs.Common.{◌≡◌, take}
use Rattle.tag_sums.specs.Sum.{some_state}
use Rattle.segment_summary.proofs.meet.has_state.Given as goal

abbrev pub invariant-loop-bit : goal.invariant-loop-bit
invariant-loop-bit l = l.found ≡ some_state (take l.bit-index l.bit-items)
