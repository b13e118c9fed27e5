use Rattle.string_ops.proofs.CutLemmas.{inner_is_machine}
use Rattle.string_ops.proofs.cut.inner_machine.Goals as goal

pub returns : goal.returns
returns c = inner_is_machine c.in_ok-table.table c.args.start c.args.below c.in_ok-table.ensures
