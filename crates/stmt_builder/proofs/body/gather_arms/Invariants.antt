use Rattle.std.proofs.Common.{◌≡◌, length}
use Rattle.stmt_machine.specs.Made as plain
use Rattle.expr_builder.specs.Views.{plain_values}
use Rattle.stmt_builder.specs.Views.{rows_of}
use Rattle.stmt_builder.proofs.RowLemmas.{arms_ahead}
use Rattle.stmt_builder.proofs.body.gather_arms.Given as goal

abbrev pub invariant-gathering : goal.invariant-gathering
invariant-gathering l = plain.gather_arms (plain_values l.fn.conditions) (rows_of l.fn.rows) ≡ arms_ahead l.arms.items l.height (plain.gather_arms (plain_values l.conditions) (rows_of l.rows))

abbrev pub decreases-gathering : goal.decreases-gathering
decreases-gathering l = length l.conditions
