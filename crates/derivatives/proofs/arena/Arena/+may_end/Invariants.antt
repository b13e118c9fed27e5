use Rattle.derivatives.proofs.arena.Arena.+may_end.Given as goal

abbrev pub decreases-may_end : goal.decreases-may_end
decreases-may_end l = l.place

abbrev pub decreases-all_may_end : goal.decreases-all_may_end
decreases-all_may_end l = l.list
