use Rattle.reference_steps.proofs.References.{references_accepted}
use Rattle.reference_steps.proofs.laws.references_accepted.Goals as goal

pub returns : goal.returns
returns c = references_accepted
