use Rattle.std.proofs.Common.{◌≡◌, List, map, length}
use Rattle.php_syntax.specs.Tokens.{plain_key}
use Rattle.expr_machine.specs.Values.{execute}
use Rattle.expr_machine.specs.Actions.{Action, keys_actions}
use Rattle.expr_builder.specs.Views.{plain_values}
use Rattle.expr_builder.proofs.values.Values.template_keys.Given as goal

abbrev pub invariant-keys : goal.invariant-keys
invariant-keys l = (r : List Action) → execute (keys_actions (map plain_key l.fn.keys) r) (plain_values l.fn.self) ≡ execute (keys_actions (map plain_key l.left) r) (plain_values l.self)

abbrev pub decreases-keys : goal.decreases-keys
decreases-keys l = length l.left
