use Rattle.php_syntax.specs.Trees.{functions_of_list}
use Rattle.script_runs.proofs.UnitRuns.{IsOnTheWay}
use Rattle.script_runs.proofs.running.finish.Given as goal

abbrev pub invariant-loop-end : goal.invariant-loop-end
invariant-loop-end l = IsOnTheWay l.request (functions_of_list l.functions.all.now) l.fn.pending l.fn.first l.fn.steps l.pending l.next l.left

abbrev pub decreases-loop-end : goal.decreases-loop-end
decreases-loop-end l = l.left
