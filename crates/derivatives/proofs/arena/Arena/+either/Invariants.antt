use Rattle.derivatives.proofs.arena.Arena.+either.Given as goal

abbrev pub decreases-either : goal.decreases-either
decreases-either l = l.x
