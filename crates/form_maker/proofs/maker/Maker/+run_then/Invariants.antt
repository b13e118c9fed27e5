use Rattle.form_maker.proofs.maker.Maker.+run_then.Given as goal

abbrev pub decreases-run_then : goal.decreases-run_then
decreases-run_then l = l.count
