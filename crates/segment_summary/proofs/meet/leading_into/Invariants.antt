use Rattle.std.proofs.Common.{◌≡◌, take}
use Rattle.tag_sums.specs.Sum.{preimage}
use Rattle.segment_summary.proofs.meet.leading_into.Given as goal

abbrev pub invariant-loop-to : goal.invariant-loop-to
invariant-loop-to l = l.bits.items ≡ preimage (take l.to-index l.map) l.set
