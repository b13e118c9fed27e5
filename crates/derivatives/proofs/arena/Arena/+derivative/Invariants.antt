use Rattle.derivatives.proofs.arena.Arena.+derivative.Given as goal

abbrev pub decreases-derivative : goal.decreases-derivative
decreases-derivative l = l.place

abbrev pub decreases-members_derivative : goal.decreases-members_derivative
decreases-members_derivative l = l.list
