use Rattle.declaration_steps.proofs.Declarations.{declarations_read}
use Rattle.declaration_steps.proofs.laws.declarations_read.Goals as goal

pub returns : goal.returns
returns c = declarations_read
