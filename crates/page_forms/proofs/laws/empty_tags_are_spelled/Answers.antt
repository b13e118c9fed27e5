use Rattle.page_forms.proofs.TagForms.{empty_tags_are_spelled}
use Rattle.page_forms.proofs.laws.empty_tags_are_spelled.Goals as goal

pub returns : goal.returns
returns c = empty_tags_are_spelled
