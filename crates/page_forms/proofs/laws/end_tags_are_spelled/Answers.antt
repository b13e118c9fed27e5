use Rattle.page_forms.proofs.SimpleForms.{end_tags_are_spelled}
use Rattle.page_forms.proofs.laws.end_tags_are_spelled.Goals as goal

pub returns : goal.returns
returns c = end_tags_are_spelled
