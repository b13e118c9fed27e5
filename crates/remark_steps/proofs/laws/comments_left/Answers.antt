use Rattle.remark_steps.proofs.Comments.{comments_left}
use Rattle.remark_steps.proofs.laws.comments_left.Goals as goal

pub returns : goal.returns
returns c = comments_left
