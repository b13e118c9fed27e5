use Rattle.page_endings.proofs.Held.{ends_can}
use Rattle.page_endings.proofs.laws.ends_can.Goals as goal

pub returns : goal.returns
returns c = ends_can
