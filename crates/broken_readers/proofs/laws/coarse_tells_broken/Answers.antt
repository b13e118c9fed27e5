use Rattle.broken_readers.proofs.Telling.{coarse_tells_broken}
use Rattle.broken_readers.proofs.laws.coarse_tells_broken.Goals as goal

pub returns : goal.returns
returns c = coarse_tells_broken
