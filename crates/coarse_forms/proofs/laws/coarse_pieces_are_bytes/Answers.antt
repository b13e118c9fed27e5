use Rattle.coarse_forms.proofs.Counted.{coarse_bytes}
use Rattle.coarse_forms.proofs.laws.coarse_pieces_are_bytes.Goals as goal

pub returns : goal.returns
returns c = coarse_bytes
