use Rattle.php_syntax.specs.Trees.{maybe_of}
use Rattle.program_sizes.specs.Sizes as sizes
use Rattle.program_sizes.proofs.statements.size_over_maybe.Goals as goal

pub returns : goal.returns
returns c = c.above.ensures (sizes.of_maybe (maybe_of c.args.expr.now)) c.size_of_maybe.ensures
