use Rattle.std.proofs.Common.{length}
use Rattle.partial_derivatives.proofs.taking.Taking.+parts.Given as goal

abbrev pub decreases-parts : goal.decreases-parts
decreases-parts l = length l.parts.now
