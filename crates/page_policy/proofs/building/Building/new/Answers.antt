use Rattle.page_policy.proofs.PutLemmas.{begun}
use Rattle.page_policy.proofs.building.Building.new.Goals as goal

pub returns : goal.returns
returns c = begun c.empty.new.self c.in_ok-row.row c.new.result c.new.ensures c.in_ok-row.ensures.made
