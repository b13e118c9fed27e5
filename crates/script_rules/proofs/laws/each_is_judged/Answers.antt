use Rattle.script_rules.proofs.Either.{is_either}
use Rattle.script_rules.proofs.laws.each_is_judged.Goals as goal

pub returns : goal.returns
returns c = is_either
