use Rattle.front_laws.proofs.Led.{failed_are_bad}
use Rattle.front_laws.proofs.laws.failed_are_bad.Goals as goal

pub returns : goal.returns
returns c = failed_are_bad
