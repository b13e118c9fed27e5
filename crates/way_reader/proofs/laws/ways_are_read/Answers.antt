use Rattle.way_reader.proofs.PagesRead.{ways_are_read}
use Rattle.way_reader.proofs.laws.ways_are_read.Goals as goal

pub returns : goal.returns
returns c = ways_are_read
