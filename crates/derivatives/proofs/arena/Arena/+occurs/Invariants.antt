use Rattle.derivatives.proofs.arena.Arena.+occurs.Given as goal

abbrev pub decreases-occurs : goal.decreases-occurs
decreases-occurs l = l.y
