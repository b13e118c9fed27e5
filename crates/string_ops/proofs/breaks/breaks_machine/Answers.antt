use Rattle.string_ops.proofs.BreaksLemmas.{breaks_is_machine}
use Rattle.string_ops.proofs.breaks.breaks_machine.Goals as goal

pub returns : goal.returns
returns c = breaks_is_machine c.in_ok-table.table c.in_ok-table.ensures
