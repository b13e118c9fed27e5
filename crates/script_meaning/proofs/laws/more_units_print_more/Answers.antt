use Rattle.script_meaning.proofs.MoreRuns.{longer_meaning}
use Rattle.script_meaning.proofs.laws.more_units_print_more.Goals as goal

pub returns : goal.returns
returns c = longer_meaning
