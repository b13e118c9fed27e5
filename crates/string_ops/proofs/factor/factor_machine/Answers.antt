use Rattle.string_ops.proofs.FactorLemmas.{factor_is_machine}
use Rattle.string_ops.proofs.factor.factor_machine.Goals as goal

pub returns : goal.returns
returns c = factor_is_machine c.in_ok-table.table c.in_ok-table.ensures
