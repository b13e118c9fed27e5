use Rattle.std.proofs.Common.{◌≡◌}
use Rattle.expr_machine.specs.Reading.{weight, reads_on, reads_expr}
use Rattle.expr_builder.specs.Views.{plain_values}
use Rattle.expr_parser.specs.Heads.{terminals_of}
use Rattle.expr_parser.proofs.parser.read_expr.Given as goal

abbrev pub invariant-moves : goal.invariant-moves
invariant-moves l = reads_expr (terminals_of l.fn.rest) (plain_values l.fn.values) ≡ reads_on l.focus l.reader (terminals_of l.left) (plain_values l.values)

abbrev pub decreases-moves : goal.decreases-moves
decreases-moves l = weight l.focus l.reader (terminals_of l.left)
