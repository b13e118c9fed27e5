use Rattle.derivations.proofs.Derivations.{derives}
use Rattle.derivations.proofs.laws.derivations_derive.Goals as goal

pub returns : goal.returns
returns c = λ ps nodes left w h. derives ps nodes _ _ w h
