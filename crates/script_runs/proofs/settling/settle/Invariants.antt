use Rattle.php_syntax.specs.Trees.{functions_of_list}
use Rattle.script_runs.specs.Weights.{weight}
use Rattle.script_runs.proofs.SettleLemmas.{Comes}
use Rattle.script_runs.proofs.settling.settle.Given as goal

abbrev pub invariant-loop-further : goal.invariant-loop-further
invariant-loop-further l = Comes l.request (functions_of_list l.functions.all.now) l.fn.pending l.fn.first l.pending l.next

abbrev pub decreases-loop-further : goal.decreases-loop-further
decreases-loop-further l = weight l.pending l.next
