use Rattle.content_automata.proofs.KeyLemmas.{adds_copy}
use Rattle.content_automata.proofs.table.cell.Goals as goal

pub returns-in_err-number-in-Some-clause-adds : goal.returns-in_err-number-in-Some-clause-adds
returns-in_err-number-in-Some-clause-adds c = adds_copy _ _ _ _ _ _ c.in-Some.is c.in_ok-behind-in-Some.ensures c.number.ensures.only

pub returns-in_ok-number-in-Some-clause-adds : goal.returns-in_ok-number-in-Some-clause-adds
returns-in_ok-number-in-Some-clause-adds c = adds_copy _ _ _ _ _ _ c.in-Some.is c.in_ok-behind-in-Some.ensures c.number.ensures.only
