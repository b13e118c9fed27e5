use Rattle.script_meaning.proofs.MoreRuns.{same_meaning}
use Rattle.script_meaning.proofs.laws.more_units_change_nothing.Goals as goal

pub returns : goal.returns
returns c = same_meaning
