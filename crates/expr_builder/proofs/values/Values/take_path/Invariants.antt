use Rattle.std.proofs.Common.{[]}
use Rattle.expr_machine.specs.Values.{take_values}
use Rattle.expr_builder.specs.Views.{plain_values}
use Rattle.expr_builder.specs.Rows.{path_shown}
use Rattle.expr_builder.proofs.RowLemmas.{PathSoFar}
use Rattle.expr_builder.proofs.values.Values.take_path.Given as goal

abbrev pub invariant-taking : goal.invariant-taking
invariant-taking l = PathSoFar (take_values l.fn.count [] (plain_values l.fn.self)) l.left (path_shown l.keys) l.complete l.before_last l.first (plain_values l.self)

abbrev pub decreases-taking : goal.decreases-taking
decreases-taking l = l.left
