use Rattle.std.proofs.Common.{length}
use Rattle.form_maker.proofs.maker.Maker.+from_to.Given as goal

abbrev pub decreases-from_to : goal.decreases-from_to
decreases-from_to l = length l.from.now
