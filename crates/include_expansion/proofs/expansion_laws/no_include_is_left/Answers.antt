use Rattle.include_expansion.proofs.WholeLemmas.{none_left}
use Rattle.include_expansion.proofs.expansion_laws.no_include_is_left.Goals as goal

pub returns : goal.returns
returns c = none_left
