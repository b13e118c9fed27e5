use Rattle.plain_values.proofs.IdentityLemmas.{identity}
use Rattle.plain_values.proofs.laws.identity_is_equality.Goals as goal

pub returns : goal.returns
returns c = identity
