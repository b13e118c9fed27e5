use Rattle.ssa_form.proofs.rows.+found_behind.Given as goal

abbrev pub decreases-found_behind : goal.decreases-found_behind
decreases-found_behind l = l.rows
