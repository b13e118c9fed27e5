use Rattle.derivatives.proofs.Alike.{are_classes}
use Rattle.derivatives.proofs.laws.bytes_of_a_class_have_one_derivative.Goals as goal

pub returns : goal.returns
returns c = are_classes
