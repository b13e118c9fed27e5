use Rattle.broken_forms.proofs.LooseTags.{loose_tags_are_spelled}
use Rattle.broken_forms.proofs.laws.loose_tags_are_spelled.Goals as goal

pub returns : goal.returns
returns c = loose_tags_are_spelled
