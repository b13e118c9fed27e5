use Rattle.broken_forms.proofs.Ending.{loose_end_once}
use Rattle.broken_forms.proofs.laws.loose_pieces_end_once.Goals as goal

pub returns : goal.returns
returns c = loose_end_once
