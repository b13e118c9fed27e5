use Rattle.front_laws.proofs.Led.{fronts_lead}
use Rattle.front_laws.proofs.laws.fronts_lead.Goals as goal

pub returns : goal.returns
returns c = fronts_lead
