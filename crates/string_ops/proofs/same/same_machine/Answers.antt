use Rattle.string_ops.proofs.SameLemmas.{same_is_machine}
use Rattle.string_ops.proofs.same.same_machine.Goals as goal

pub returns : goal.returns
returns c = same_is_machine c.in_ok-table.table c.in_ok-table.ensures
