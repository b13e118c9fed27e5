use Rattle.broken_forms.proofs.Pieces.{loose_pieces_are_spelled}
use Rattle.broken_forms.proofs.laws.loose_pieces_are_spelled.Goals as goal

pub returns : goal.returns
returns c = loose_pieces_are_spelled
