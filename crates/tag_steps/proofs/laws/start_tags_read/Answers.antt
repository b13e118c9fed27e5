use Rattle.tag_steps.proofs.StartTags.{start_tags_read}
use Rattle.tag_steps.proofs.laws.start_tags_read.Goals as goal

pub returns : goal.returns
returns c = start_tags_read
