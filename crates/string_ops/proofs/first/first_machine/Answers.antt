use Rattle.string_ops.proofs.FirstLemmas.{first_is_machine}
use Rattle.string_ops.proofs.first.first_machine.Goals as goal

pub returns : goal.returns
returns c = first_is_machine c.in_ok-table.table c.in_ok-table.ensures
