use Rattle.broken_readers.proofs.Finding.{loose_finds_broken}
use Rattle.broken_readers.proofs.laws.loose_finds_broken.Goals as goal

pub returns : goal.returns
returns c = loose_finds_broken c.loose_tells_broken.ensures c.broken_is_not_good.ensures
