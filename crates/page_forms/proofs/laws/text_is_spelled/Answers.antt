use Rattle.page_forms.proofs.SimpleForms.{text_is_spelled}
use Rattle.page_forms.proofs.laws.text_is_spelled.Goals as goal

pub returns : goal.returns
returns c = text_is_spelled
