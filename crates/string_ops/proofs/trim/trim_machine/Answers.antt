use Rattle.string_ops.proofs.TrimLemmas.{trim_is_machine}
use Rattle.string_ops.proofs.trim.trim_machine.Goals as goal

pub returns : goal.returns
returns c = trim_is_machine c.args.left c.args.right c.in_ok-table.table c.in_ok-table.ensures
