use Rattle.derivatives.proofs.arena.Arena.+onto.Given as goal

abbrev pub decreases-onto : goal.decreases-onto
decreases-onto l = l.front
