use Rattle.page_forms.proofs.ReferenceForms.{references_are_spelled}
use Rattle.page_forms.proofs.laws.references_are_spelled.Goals as goal

pub returns : goal.returns
returns c = references_are_spelled
