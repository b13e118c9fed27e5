use Rattle.program_sizes.specs.Sizes as sizes
use Rattle.program_sizes.proofs.statements.plain_size.Goals as goal

pub returns : goal.returns
returns c = c.above.ensures sizes.none c.none.ensures
