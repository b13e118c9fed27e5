use Rattle.include_expansion.proofs.OrderLemmas.{have_places}
use Rattle.include_expansion.proofs.expansion_laws.statements_have_places.Goals as goal

pub returns : goal.returns
returns c = λ held files order n ss is has. have_places held files order is has n ss
