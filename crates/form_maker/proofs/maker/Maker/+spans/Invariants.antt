use Rattle.std.proofs.Common.{length}
use Rattle.form_maker.proofs.maker.Maker.+spans.Given as goal

abbrev pub decreases-spans : goal.decreases-spans
decreases-spans l = length l.spans.now
