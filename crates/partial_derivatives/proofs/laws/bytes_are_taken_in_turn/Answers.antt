use Rattle.partial_derivatives.proofs.InTurn.{byte_in_turn}
use Rattle.partial_derivatives.proofs.laws.bytes_are_taken_in_turn.Goals as goal

pub returns : goal.returns
returns c = byte_in_turn
