use Rattle.std.proofs.Common.{refl}
use Rattle.expr_evaluator.proofs.RowMoves.{finished_as, isset_finishes}
use Rattle.expr_evaluator.proofs.rows.finish.Goals as goal

pub returns-in-Join : goal.returns-in-Join
returns-in-Join c = finished_as _ _ _ _ _ _ (c.in_ok-next-in-Join.ensures _) c.in-Join.is (cc)

pub returns-in-Isset : goal.returns-in-Isset
returns-in-Isset c = finished_as _ _ _ _ _ _ (isset_finishes _ _ _ c.none_is_null.ensures) c.in-Isset.is c.deref-in-Isset.ensures.value

pub returns : goal.returns
returns c = finished_as _ _ _ _ _ _ c.in_ok-next-in-Call.ensures c.in-Call.is refl
