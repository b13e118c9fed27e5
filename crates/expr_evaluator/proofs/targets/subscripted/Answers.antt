use Rattle.std.proofs.Common.{refl}
use Rattle.expr_evaluator.proofs.WriteMoves.{reads_assign, reads_as}
use Rattle.expr_evaluator.proofs.targets.subscripted.Goals as goal

pub returns-in-Assign : goal.returns-in-Assign
returns-in-Assign c = reads_as _ _ _ _ _ _ _ (reads_assign _ _ _ _ _ _ c.in_ok-next-in-Assign.ensures) c.in-Assign.is refl

pub returns : goal.returns
returns c = reads_as _ _ _ _ _ _ _ c.in_ok-next-in-Update.ensures c.in-Update.is (cc)
