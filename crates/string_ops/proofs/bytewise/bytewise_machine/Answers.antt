use Rattle.string_ops.proofs.BytewiseLemmas.{bytewise_is_machine}
use Rattle.string_ops.proofs.bytewise.bytewise_machine.Goals as goal

pub returns : goal.returns
returns c = bytewise_is_machine c.args.kind c.in_ok-table.table c.in_ok-table.ensures
