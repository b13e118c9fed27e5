use Rattle.std.proofs.Common.{◌≡◌, List, map, length}
use Rattle.php_syntax.specs.Tokens.{plain_part_of}
use Rattle.expr_machine.specs.Values.{execute}
use Rattle.expr_machine.specs.Actions.{Action, parts_actions}
use Rattle.expr_builder.specs.Views.{plain_values}
use Rattle.expr_builder.proofs.values.Values.template_parts.Given as goal

abbrev pub invariant-parts : goal.invariant-parts
invariant-parts l = (r : List Action) → execute (parts_actions (map plain_part_of l.fn.parts) r) (plain_values l.fn.self) ≡ execute (parts_actions (map plain_part_of l.left) r) (plain_values l.self)

abbrev pub decreases-parts : goal.decreases-parts
decreases-parts l = length l.left
