use Rattle.partial_derivatives.proofs.InTurn.{end_in_turn}
use Rattle.partial_derivatives.proofs.laws.parts_end_in_turn.Goals as goal

pub returns : goal.returns
returns c = end_in_turn
