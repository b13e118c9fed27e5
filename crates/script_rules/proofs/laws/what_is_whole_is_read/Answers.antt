use Rattle.script_rules.proofs.Whole.{is_read_whole}
use Rattle.script_rules.proofs.laws.what_is_whole_is_read.Goals as goal

pub returns : goal.returns
returns c = is_read_whole
