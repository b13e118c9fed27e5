use Rattle.partial_derivatives.proofs.Alike.{are_classes_in_turn}
use Rattle.partial_derivatives.proofs.laws.classes_are_taken_in_turn.Goals as goal

pub returns : goal.returns
returns c = are_classes_in_turn
