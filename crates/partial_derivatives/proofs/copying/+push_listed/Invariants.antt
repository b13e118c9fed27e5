use Rattle.partial_derivatives.proofs.copying.+push_listed.Given as goal

abbrev pub decreases-push_listed : goal.decreases-push_listed
decreases-push_listed l = l.list
