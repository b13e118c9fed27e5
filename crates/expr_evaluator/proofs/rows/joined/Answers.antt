use Rattle.expr_evaluator.proofs.TreeLemmas.{other_fault}
use Rattle.expr_evaluator.proofs.RowMoves.{joined_finishes, tells_fault}
use Rattle.expr_evaluator.proofs.rows.joined.Goals as goal

pub returns-in-Ok : goal.returns-in-Ok
returns-in-Ok c = λ fs. joined_finishes fs _ _ c.in-Ok.ensures.ok

pub returns-in_ok-next-in-Err : goal.returns-in_ok-next-in-Err
returns-in_ok-next-in-Err c = λ fs. joined_finishes fs _ _ (tells_fault _ _ _ c.in_ok-next-in-Err.ensures.0 (other_fault c.in-Err.ensures.err c.in_ok-next-in-Err.ensures.1))
