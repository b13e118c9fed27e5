use Rattle.std.proofs.Common.{◌≡◌, length}
use Rattle.expr_machine.specs.Values as plain
use Rattle.expr_builder.specs.Views.{plain_value, plain_values}
use Rattle.expr_builder.proofs.counted.read_value.Given as goal

abbrev pub invariant-reading : goal.invariant-reading
invariant-reading l = plain.read_value (plain_value l.fn.array) (plain_values l.fn.keys) ≡ plain.read_value (plain_value l.value) (plain_values l.left)

abbrev pub decreases-reading : goal.decreases-reading
decreases-reading l = length l.left
