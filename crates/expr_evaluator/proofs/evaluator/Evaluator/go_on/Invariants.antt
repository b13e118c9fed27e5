use Rattle.std.proofs.Common.{◌+◌}
use Rattle.php_syntax.specs.Trees.{functions_of_list}
use Rattle.expr_evaluator.specs.Cost.{focus_cost, stack_cost}
use Rattle.expr_evaluator.proofs.LoopMoves.{Comes}
use Rattle.expr_evaluator.proofs.evaluator.Evaluator.go_on.Given as goal

abbrev pub invariant-loop-next : goal.invariant-loop-next
invariant-loop-next l = Comes l.request (functions_of_list l.functions.all.now) l.fn.first l.fn.self l.focus l.self

abbrev pub decreases-loop-next : goal.decreases-loop-next
decreases-loop-next l = focus_cost l.focus + stack_cost l.self.frames
