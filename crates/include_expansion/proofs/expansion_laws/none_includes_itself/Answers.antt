use Rattle.include_expansion.proofs.OrderLemmas.{none_in_itself}
use Rattle.include_expansion.proofs.expansion_laws.none_includes_itself.Goals as goal

pub returns : goal.returns
returns c = none_in_itself
