use Rattle.derivatives.proofs.NodeLemmas.{expr_stays, list_stays}
use Rattle.derivatives.proofs.laws.numbers_go_on_to_stand.Goals as goal

pub returns : goal.returns
returns c = record { exprs = expr_stays; lists = list_stays }
