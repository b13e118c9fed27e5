use Rattle.std.proofs.Common.{length, ◌≤◌}
use Rattle.page_policy.specs.Views.{RangesSoFar}
use Rattle.page_policy.proofs.parts.ranges_at.Given as goal

-- some ranges are read, and the rest is as short
abbrev pub invariant-loop-range : goal.invariant-loop-range
invariant-loop-range l = RangesSoFar l.bytes l.set l.rest × (length l.rest ≤ length l.bytes)

abbrev pub decreases-loop-range : goal.decreases-loop-range
decreases-loop-range l = length l.rest
