use Rattle.page_forms.proofs.SimpleForms.{mark_is_spelled}
use Rattle.page_forms.proofs.laws.mark_is_spelled.Goals as goal

pub returns : goal.returns
returns c = mark_is_spelled
