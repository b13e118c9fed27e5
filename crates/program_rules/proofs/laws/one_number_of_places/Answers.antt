use Rattle.program_rules.proofs.Agreement.{one_count}
use Rattle.program_rules.proofs.laws.one_number_of_places.Goals as goal

pub returns : goal.returns
returns c held ss m n one p q = one_count held one ss m n p q
