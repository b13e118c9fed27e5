use Rattle.way_reader.proofs.PagesRead.{pages_are_read}
use Rattle.way_reader.proofs.laws.pages_are_read.Goals as goal

pub returns : goal.returns
returns c = pages_are_read
