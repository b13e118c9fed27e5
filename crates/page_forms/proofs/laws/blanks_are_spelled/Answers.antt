use Rattle.page_forms.proofs.SimpleForms.{blanks_are_spelled}
use Rattle.page_forms.proofs.laws.blanks_are_spelled.Goals as goal

pub returns : goal.returns
returns c = blanks_are_spelled
