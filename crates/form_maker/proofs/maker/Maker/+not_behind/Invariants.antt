use Rattle.std.proofs.Common.{length}
use Rattle.form_maker.proofs.maker.Maker.+not_behind.Given as goal

abbrev pub decreases-not_behind : goal.decreases-not_behind
decreases-not_behind l = length l.word.now
