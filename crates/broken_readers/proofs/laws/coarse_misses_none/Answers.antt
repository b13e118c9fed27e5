use Rattle.broken_readers.proofs.Finding.{coarse_misses_none}
use Rattle.broken_readers.proofs.laws.coarse_misses_none.Goals as goal

pub returns : goal.returns
returns c = coarse_misses_none c.coarse_tells_broken.ensures
