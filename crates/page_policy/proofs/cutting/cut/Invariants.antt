use Rattle.std.proofs.Common.{length, ◌≤◌}
use Rattle.page_policy.specs.Cuts.{CutSoFar}
use Rattle.page_policy.proofs.cutting.cut.Given as goal

-- so much is cut, and the rest is as short
abbrev pub invariant-loop-part : goal.invariant-loop-part
invariant-loop-part l = CutSoFar l.file l.rest l.items.items × (length l.rest ≤ length l.file)

abbrev pub decreases-loop-part : goal.decreases-loop-part
decreases-loop-part l = length l.rest
