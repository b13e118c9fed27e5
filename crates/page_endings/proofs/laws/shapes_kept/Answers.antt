use Rattle.page_endings.proofs.Kept.{shapes_kept}
use Rattle.page_endings.proofs.laws.shapes_kept.Goals as goal

pub returns : goal.returns
returns c = shapes_kept
