use Rattle.string_ops.proofs.CutLemmas.{rest_is_machine}
use Rattle.string_ops.proofs.cut.rest_machine.Goals as goal

pub returns : goal.returns
returns c = rest_is_machine c.in_ok-table.table c.args.start c.in_ok-table.ensures
