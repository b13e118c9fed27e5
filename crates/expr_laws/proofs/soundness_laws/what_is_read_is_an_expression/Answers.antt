use Rattle.expr_laws.proofs.Soundness.{sound}
use Rattle.expr_laws.proofs.soundness_laws.what_is_read_is_an_expression.Goals as goal

pub returns : goal.returns
returns c = sound
