use Rattle.std.proofs.Common.{codes}
use Rattle.piece_reasons.proofs.remarks.comment.Goals as goal

pub returns : goal.returns
returns c = c.stray.ensures (codes "<!--")
