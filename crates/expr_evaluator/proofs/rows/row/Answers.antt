use Rattle.expr_evaluator.proofs.TreeLemmas.{empty_of}
use Rattle.expr_evaluator.proofs.RowMoves.{row_ends, row_goes}
use Rattle.expr_evaluator.proofs.rows.row.Goals as goal

pub returns-in_ok-next-in-None : goal.returns-in_ok-next-in-None
returns-in_ok-next-in-None c = λ r. row_ends r _ _ _ _ _ _ (empty_of _ c.in-None.ensures.cases) c.in_ok-next-in-None.ensures

pub returns-in_ok-next-in-Some : goal.returns-in_ok-next-in-Some
returns-in_ok-next-in-Some c = λ r. row_goes r _ _ _ c.in-Some.others c.in-Some.first _ _ _ _ c.in-Some.ensures.cases.0 c.in_ok-next-in-Some.ensures
