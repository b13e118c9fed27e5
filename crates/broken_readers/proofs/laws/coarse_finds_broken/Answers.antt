use Rattle.broken_readers.proofs.Finding.{coarse_finds_broken}
use Rattle.broken_readers.proofs.laws.coarse_finds_broken.Goals as goal

pub returns : goal.returns
returns c = coarse_finds_broken c.coarse_tells_broken.ensures c.coarse_pages_are_broken.ensures c.broken_is_not_good.ensures
