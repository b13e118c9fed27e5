use Rattle.partial_derivatives.proofs.taking.Taking.+whole.Given as goal

abbrev pub decreases-whole : goal.decreases-whole
decreases-whole l = l.place

abbrev pub decreases-list : goal.decreases-list
decreases-list l = l.list
