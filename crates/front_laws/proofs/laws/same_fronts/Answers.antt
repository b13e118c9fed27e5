use Rattle.front_laws.proofs.Led.{same_fronts}
use Rattle.front_laws.proofs.laws.same_fronts.Goals as goal

pub returns : goal.returns
returns c = same_fronts
