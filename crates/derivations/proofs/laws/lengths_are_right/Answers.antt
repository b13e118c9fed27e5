use Rattle.derivations.proofs.Derivations.{lengths}
use Rattle.derivations.proofs.laws.lengths_are_right.Goals as goal

pub returns : goal.returns
returns c = λ ps nodes p a w lawful h. lengths ps nodes lawful p a w h
