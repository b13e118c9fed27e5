use Rattle.std.proofs.Common.{codes}
use Rattle.piece_reasons.proofs.remarks.section.Goals as goal

pub returns-in-Some : goal.returns-in-Some
returns-in-Some c = c.stray.ensures (codes "<![CDATA[")
