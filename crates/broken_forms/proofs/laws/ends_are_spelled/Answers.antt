use Rattle.broken_forms.proofs.References.{ends_are_spelled}
use Rattle.broken_forms.proofs.laws.ends_are_spelled.Goals as goal

pub returns : goal.returns
returns c = ends_are_spelled
