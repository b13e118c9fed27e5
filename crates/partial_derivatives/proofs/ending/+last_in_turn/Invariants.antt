use Rattle.std.proofs.Common.{length}
use Rattle.partial_derivatives.proofs.ending.+last_in_turn.Given as goal

abbrev pub decreases-last_in_turn : goal.decreases-last_in_turn
decreases-last_in_turn l = length l.parts.now
