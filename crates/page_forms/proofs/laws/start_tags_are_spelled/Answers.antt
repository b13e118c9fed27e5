use Rattle.page_forms.proofs.TagForms.{start_tags_are_spelled}
use Rattle.page_forms.proofs.laws.start_tags_are_spelled.Goals as goal

pub returns : goal.returns
returns c = start_tags_are_spelled
