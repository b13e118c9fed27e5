use Rattle.script_rules.proofs.Whole.{is_one_form}
use Rattle.script_rules.proofs.laws.first_form_is_one.Goals as goal

pub returns : goal.returns
returns c = is_one_form
