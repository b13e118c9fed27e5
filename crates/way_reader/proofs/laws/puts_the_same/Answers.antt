use Rattle.way_reader.proofs.Same.{puts_the_same}
use Rattle.way_reader.proofs.laws.puts_the_same.Goals as goal

pub returns : goal.returns
returns c = puts_the_same
