use Rattle.dyck_balance.proofs.NestingLemmas.{whole_is_nested}
use Rattle.dyck_balance.proofs.laws.whole_is_nested.Goals as goal

pub returns : goal.returns
returns c = whole_is_nested
