use Rattle.page_forms.proofs.Comments.{comments_are_spelled}
use Rattle.page_forms.proofs.laws.comments_are_spelled.Goals as goal

pub returns : goal.returns
returns c = comments_are_spelled
