use Rattle.std.proofs.Common.{[], ◌+◌}
use Rattle.expr_machine.specs.Values.{take_values}
use Rattle.expr_builder.specs.Views.{plain_values}
use Rattle.expr_builder.specs.Rows.{items_shown}
use Rattle.expr_builder.proofs.RowLemmas.{ItemsSoFar}
use Rattle.expr_builder.proofs.values.Values.take_items.Given as goal

abbrev pub invariant-taking : goal.invariant-taking
invariant-taking l = ItemsSoFar (take_values (l.fn.count + l.fn.count) [] (plain_values l.fn.self)) l.left (items_shown l.items) (plain_values l.self)

abbrev pub decreases-taking : goal.decreases-taking
decreases-taking l = l.left
