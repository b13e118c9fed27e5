use Rattle.request_reading.proofs.StrayLemmas.{goes_by_members}
use Rattle.request_reading.proofs.laws.outcomes_go_by_members.Goals as goal

pub returns : goal.returns
returns c = goes_by_members
