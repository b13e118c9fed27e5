use Rattle.std.proofs.Common.{length}
use Rattle.form_maker.proofs.maker.Maker.+at_most.Given as goal

abbrev pub decreases-at_most : goal.decreases-at_most
decreases-at_most l = length l.digits.now
