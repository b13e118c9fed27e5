use Rattle.std.proofs.Common.{length}
use Rattle.form_maker.proofs.maker.Maker.+at_least.Given as goal

abbrev pub decreases-at_least : goal.decreases-at_least
decreases-at_least l = length l.digits.now
