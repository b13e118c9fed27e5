use Rattle.include_expansion.proofs.OrderLemmas.{stand_for}
use Rattle.include_expansion.proofs.expansion_laws.statements_stand_for.Goals as goal

pub returns : goal.returns
returns c = λ held files order n ss is has. stand_for held files order is has n ss
