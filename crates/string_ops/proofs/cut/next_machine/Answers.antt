use Rattle.string_ops.proofs.CutLemmas.{next_is_machine}
use Rattle.string_ops.proofs.cut.next_machine.Goals as goal

pub returns : goal.returns
returns c = next_is_machine c.in_ok-table.table c.args.start c.args.len c.in_ok-table.ensures
