use Rattle.lr_tables.proofs.Placed.{is_placed}
use Rattle.lr_tables.proofs.laws.where_it_stops_is_first_wrong.Goals as goal

pub returns : goal.returns
returns c = is_placed
