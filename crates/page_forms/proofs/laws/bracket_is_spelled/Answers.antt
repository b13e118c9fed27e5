use Rattle.page_forms.proofs.SimpleForms.{bracket_is_spelled}
use Rattle.page_forms.proofs.laws.bracket_is_spelled.Goals as goal

pub returns : goal.returns
returns c = bracket_is_spelled
