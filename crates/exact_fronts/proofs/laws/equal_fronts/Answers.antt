use Rattle.exact_fronts.proofs.Exact.{equal_fronts}
use Rattle.exact_fronts.proofs.laws.equal_fronts.Goals as goal

pub returns : goal.returns
returns c = equal_fronts c.fronts_lead.ensures
