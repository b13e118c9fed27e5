use Rattle.lr_tables.proofs.Placed.{is_one_place}
use Rattle.lr_tables.proofs.laws.first_wrong_is_one.Goals as goal

pub returns : goal.returns
returns c = is_one_place
