use Rattle.php_syntax.specs.Trees.{plain_expr}
use Rattle.program_sizes.specs.Sizes as sizes
use Rattle.program_sizes.proofs.statements.size_over_one.Goals as goal

pub returns : goal.returns
returns c = c.above.ensures (sizes.of_expr (plain_expr c.args.expr.now)) c.size_of_expr.ensures
