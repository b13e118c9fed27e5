use Rattle.std.proofs.Common.{◌≡◌, []}
use Rattle.expr_machine.specs.Values.{take_values}
use Rattle.expr_builder.specs.Views.{plain_values}
use Rattle.expr_builder.proofs.values.Values.take_row.Given as goal

abbrev pub invariant-taking : goal.invariant-taking
invariant-taking l = take_values l.fn.count [] (plain_values l.fn.self) ≡ take_values l.left (plain_values l.row) (plain_values l.self)

abbrev pub decreases-taking : goal.decreases-taking
decreases-taking l = l.left
