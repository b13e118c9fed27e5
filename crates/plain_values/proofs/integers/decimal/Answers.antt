use Rattle.plain_values.proofs.DecimalLemmas.{decimal_short}
use Rattle.plain_values.proofs.integers.decimal.Goals as goal

pub returns-clause-short : goal.returns-clause-short
returns-clause-short c = decimal_short c.args.number c.ranges.number

pub returns-in_err-text-clause-short : goal.returns-in_err-text-clause-short
returns-in_err-text-clause-short c = decimal_short c.args.number c.ranges.number
