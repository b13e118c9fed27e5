use Rattle.broken_readers.proofs.Finding.{loose_misses_none}
use Rattle.broken_readers.proofs.laws.loose_misses_none.Goals as goal

pub returns : goal.returns
returns c = loose_misses_none c.loose_tells_broken.ensures
