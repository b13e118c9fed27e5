use Rattle.numbered_sets.proofs.ChainLemmas.{chains_fall}
use Rattle.equal_sets.proofs.passing.by_number.Goals as goal

pub returns-clause-falls : goal.returns-clause-falls
returns-clause-falls c = chains_fall _ _ _ c.in_ok-chains.ensures.chains
