use Rattle.expr_evaluator.proofs.TreeLemmas.{other_fault}
use Rattle.expr_evaluator.proofs.RowMoves.{item_put, item_fails}
use Rattle.expr_evaluator.proofs.items.put_item.Goals as goal

pub returns-in-Ok : goal.returns-in-Ok
returns-in-Ok c = λ r fs m. item_put r fs _ _ _ _ _ m c.in-Ok.ensures.ok

pub returns : goal.returns
returns c = λ r fs m. item_fails r fs _ _ _ _ _ m _ c.in_ok-next-in-Err.ensures.0 (other_fault c.in-Err.ensures.err c.in_ok-next-in-Err.ensures.1)
