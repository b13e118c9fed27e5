use Rattle.script_rules.proofs.Whole.{is_read_as_none}
use Rattle.script_rules.proofs.laws.what_is_left_out_is_not_read.Goals as goal

pub returns : goal.returns
returns c = is_read_as_none
