use Rattle.expr_evaluator.proofs.WriteMoves.{assigned_err}
use Rattle.expr_evaluator.proofs.targets.assigned.Goals as goal

pub returns-clause-err : goal.returns-clause-err
returns-clause-err c = assigned_err _ _ _ _ _ _ _ c.is_empty.ensures c.if-is_empty.false c.in_ok-path.ensures.ok c.deref.ensures.value c.in-Err.ensures.err
