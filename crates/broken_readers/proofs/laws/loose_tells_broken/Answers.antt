use Rattle.broken_readers.proofs.Telling.{loose_tells_broken}
use Rattle.broken_readers.proofs.laws.loose_tells_broken.Goals as goal

pub returns : goal.returns
returns c = loose_tells_broken
