use Rattle.page_forms.proofs.Sections.{sections_are_spelled}
use Rattle.page_forms.proofs.laws.sections_are_spelled.Goals as goal

pub returns : goal.returns
returns c = sections_are_spelled
