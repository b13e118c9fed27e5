use Rattle.std.proofs.Common.{◌≡◌, length}
use Rattle.expr_machine.specs.Values as plain
use Rattle.expr_builder.specs.Views.{plain_values}
use Rattle.stmt_builder.proofs.RowLemmas.{exprs_ahead}
use Rattle.stmt_builder.proofs.rows.gather_exprs.Given as goal

abbrev pub invariant-gathering : goal.invariant-gathering
invariant-gathering l = plain.gather_exprs (plain_values l.fn.row) ≡ exprs_ahead l.exprs.items l.height (plain.gather_exprs (plain_values l.row))

abbrev pub decreases-gathering : goal.decreases-gathering
decreases-gathering l = length l.row
