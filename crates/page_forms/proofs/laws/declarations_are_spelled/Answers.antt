use Rattle.page_forms.proofs.DeclarationForms.{declarations_are_spelled}
use Rattle.page_forms.proofs.laws.declarations_are_spelled.Goals as goal

pub returns : goal.returns
returns c = declarations_are_spelled
