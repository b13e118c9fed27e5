use Rattle.form_maker.proofs.maker.Maker.+times.Given as goal

abbrev pub decreases-times : goal.decreases-times
decreases-times l = l.count
