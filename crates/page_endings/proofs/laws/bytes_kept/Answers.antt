use Rattle.page_endings.proofs.Held.{bytes_kept}
use Rattle.page_endings.proofs.laws.bytes_kept.Goals as goal

pub returns : goal.returns
returns c = bytes_kept
