use Rattle.string_ops.proofs.ReplaceLemmas.{replace_is_machine}
use Rattle.string_ops.proofs.replace.replace_machine.Goals as goal

pub returns : goal.returns
returns c = replace_is_machine c.in_ok-table.table c.args.pattern.now c.args.with.now c.requires c.in_ok-table.ensures
