use Rattle.tag_sums.proofs.Associativity.{assoc}
use Rattle.tag_sums.proofs.laws.associative.Goals as goal

pub returns : goal.returns
returns c = assoc
