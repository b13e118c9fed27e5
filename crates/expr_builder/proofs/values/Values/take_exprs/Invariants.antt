use Rattle.std.proofs.Common.{[]}
use Rattle.expr_machine.specs.Values.{take_values}
use Rattle.expr_builder.specs.Views.{plain_values}
use Rattle.expr_builder.specs.Rows.{exprs_shown}
use Rattle.expr_builder.proofs.RowLemmas.{RowSoFar}
use Rattle.expr_builder.proofs.values.Values.take_exprs.Given as goal

abbrev pub invariant-taking : goal.invariant-taking
invariant-taking l = RowSoFar (take_values l.fn.count [] (plain_values l.fn.self)) l.left (exprs_shown l.exprs) l.places (plain_values l.self)

abbrev pub decreases-taking : goal.decreases-taking
decreases-taking l = l.left
