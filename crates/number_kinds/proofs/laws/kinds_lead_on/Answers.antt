use Rattle.number_kinds.proofs.KindLemmas.{decimal_kinds, hexadecimal_kinds}
use Rattle.number_kinds.proofs.laws.kinds_lead_on.Goals as goal

pub returns-clause-decimal : goal.returns-clause-decimal
returns-clause-decimal c = decimal_kinds

pub returns-clause-hexadecimal : goal.returns-clause-hexadecimal
returns-clause-hexadecimal c = hexadecimal_kinds
