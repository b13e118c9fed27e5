use Rattle.derivatives.proofs.arena.Arena.+last_alike.Given as goal

abbrev pub decreases-last_alike : goal.decreases-last_alike
decreases-last_alike l = l.place

abbrev pub decreases-members_last_alike : goal.decreases-members_last_alike
decreases-members_last_alike l = l.list
