use Rattle.coarse_forms.proofs.Scanning.{coarse_ends_once}
use Rattle.coarse_forms.proofs.laws.coarse_pieces_end_once.Goals as goal

pub returns : goal.returns
returns c = coarse_ends_once
