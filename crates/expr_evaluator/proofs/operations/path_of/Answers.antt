use Rattle.std.proofs.Common.{◌∙◌}
use Rattle.expr_evaluator.proofs.WriteMoves.{path_on}
use Rattle.expr_evaluator.proofs.operations.path_of.Goals as goal

pub loop-subscript-preserved : goal.loop-subscript-preserved
loop-subscript-preserved c = c.loop-subscript.invariant ∙ path_on _ _ _ _ _ _ c.in-Some.ensures.cases.0 c.in_ok-step.ensures.ok c.in_ok-push.ensures.items
