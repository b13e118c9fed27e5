use Rattle.std.proofs.Common.{refl}
use Rattle.reading_tests.specs.Small.{small}
use Rattle.reading_tests.proofs.reading.tables.Goals as goal

pub returns : goal.returns
unfolding small
returns c = refl
