use Rattle.page_model.proofs.Once.{bytes_once}
use Rattle.page_model.proofs.laws.one_cutting.Goals as goal

pub returns : goal.returns
returns c = bytes_once
