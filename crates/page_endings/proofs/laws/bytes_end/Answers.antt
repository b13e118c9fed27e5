use Rattle.page_endings.proofs.Held.{bytes_end}
use Rattle.page_endings.proofs.laws.bytes_end.Goals as goal

pub returns : goal.returns
returns c = bytes_end
