use Rattle.page_step_laws.proofs.Opened.{pieces_open}
use Rattle.page_step_laws.proofs.laws.pieces_open.Goals as goal

pub returns : goal.returns
returns c = pieces_open
