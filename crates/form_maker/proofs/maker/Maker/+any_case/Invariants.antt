use Rattle.std.proofs.Common.{length}
use Rattle.form_maker.proofs.maker.Maker.+any_case.Given as goal

abbrev pub decreases-any_case : goal.decreases-any_case
decreases-any_case l = length l.word.now
