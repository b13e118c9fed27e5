use Rattle.std.proofs.Common.{length}
use Rattle.partial_derivatives.proofs.ending.+members_last.Given as goal

abbrev pub decreases-members_last : goal.decreases-members_last
decreases-members_last l = length l.members.now
