use Rattle.broken_forms.proofs.References.{loose_references_are_spelled}
use Rattle.broken_forms.proofs.laws.loose_references_are_spelled.Goals as goal

pub returns : goal.returns
returns c = loose_references_are_spelled
