use Rattle.tag_steps.proofs.EndTags.{end_tags_read}
use Rattle.tag_steps.proofs.laws.end_tags_read.Goals as goal

pub returns : goal.returns
returns c = end_tags_read
