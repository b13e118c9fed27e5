use Rattle.expr_evaluator.proofs.LoopMoves.{comes_first, comes_on, comes_to, moved_on, moved_at}
use Rattle.expr_evaluator.proofs.evaluator.Evaluator.go_on.Goals as goal

pub loop-next-init : goal.loop-next-init
loop-next-init c = comes_first _ _ _ _

pub loop-next-preserved : goal.loop-next-preserved
loop-next-preserved c = comes_on _ _ _ _ _ _ _ _ c.loop-next.invariant (moved_on _ _ _ _ _ _ _ c.in_ok-next.ensures c.in-On.is)

pub loop-next-smaller : goal.loop-next-smaller
loop-next-smaller c = (moved_on _ _ _ _ _ _ _ c.in_ok-next.ensures c.in-On.is).less

pub returns-in-At : goal.returns-in-At
returns-in-At c = comes_to _ _ _ _ _ _ _ _ c.loop-next.invariant (moved_at _ _ _ _ _ _ _ c.in_ok-next.ensures c.in-At.is)
