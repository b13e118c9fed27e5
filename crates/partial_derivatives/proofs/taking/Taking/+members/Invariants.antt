use Rattle.std.proofs.Common.{length}
use Rattle.partial_derivatives.proofs.taking.Taking.+members.Given as goal

abbrev pub decreases-members : goal.decreases-members
decreases-members l = length l.members.now
