use Rattle.program_sizes.specs.Sizes as sizes
use Rattle.program_sizes.proofs.expressions.leaf.Goals as goal

pub returns : goal.returns
returns c = c.above.ensures sizes.none c.none.ensures
