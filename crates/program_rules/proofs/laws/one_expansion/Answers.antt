use Rattle.program_rules.proofs.Agreement.{one_body}
use Rattle.program_rules.proofs.laws.one_expansion.Goals as goal

pub returns : goal.returns
returns c held ss a b one p q = one_body held one ss a b p q
