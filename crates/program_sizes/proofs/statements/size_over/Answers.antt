use Rattle.php_syntax.specs.Trees.{exprs_of}
use Rattle.program_sizes.specs.Sizes as sizes
use Rattle.program_sizes.proofs.statements.size_over.Goals as goal

pub returns : goal.returns
returns c = c.above.ensures (sizes.of_exprs (exprs_of c.args.exprs.now)) c.size_of_exprs.ensures
