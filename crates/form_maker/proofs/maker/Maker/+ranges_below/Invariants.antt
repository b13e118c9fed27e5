use Rattle.form_maker.proofs.maker.Maker.+ranges_below.Given as goal

abbrev pub decreases-ranges_below : goal.decreases-ranges_below
decreases-ranges_below g l = l.end
