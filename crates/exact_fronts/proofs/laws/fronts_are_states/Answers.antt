use Rattle.exact_fronts.proofs.Exact.{fronts_are_states}
use Rattle.exact_fronts.proofs.laws.fronts_are_states.Goals as goal

pub returns : goal.returns
returns c = fronts_are_states c.fronts_lead.ensures
