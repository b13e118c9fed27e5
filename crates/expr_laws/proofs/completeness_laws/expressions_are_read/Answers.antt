use Rattle.expr_laws.proofs.Enough.{expressions_are_read}
use Rattle.expr_laws.proofs.completeness_laws.expressions_are_read.Goals as goal

pub returns : goal.returns
returns c = expressions_are_read
