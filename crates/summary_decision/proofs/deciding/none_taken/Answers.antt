use Rattle.std.proofs.Common.{[], arith}
use Rattle.std.proofs.lemmas.List.Elements.{All-nil}
use Rattle.summary_decision.proofs.deciding.none_taken.Goals as goal

pub returns-clause-chains : goal.returns-clause-chains
returns-clause-chains c = c.in_ok-widen.ensures.chains [] (All-nil _) c.new-chains.ensures.chains

pub returns-clause-len : goal.returns-clause-len
returns-clause-len c = omega (arith, c.in_ok-widen.ensures.len, c.new-chains.ensures.len)
