use Rattle.coarse_forms.proofs.Scanning.{coarse_has_bytes}
use Rattle.coarse_forms.proofs.laws.coarse_pieces_have_bytes.Goals as goal

pub returns : goal.returns
returns c = coarse_has_bytes
