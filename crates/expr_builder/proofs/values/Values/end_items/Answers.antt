use Rattle.std.proofs.Common.{[], ◌∷◌}
use Rattle.expr_machine.specs.Machine as machine
use Rattle.expr_machine.specs.Machine.{Move, moves}
use Rattle.expr_machine.specs.Actions.{array_action}
use Rattle.expr_builder.proofs.TemplateLemmas as tl
use Rattle.expr_builder.proofs.values.Values.end_items.Goals as goal

pub returns-then-not-fine : goal.returns-then-not-fine
returns-then-not-fine c = tl.first_false c.in_ok-fine.fine (machine.item_actions c.args.keyed) _ _ c.if-not-fine.true c.in_ok-fine.ensures (array_action c.args.count ∷ [])

pub returns : goal.returns
returns c = tl.passed_after c.array.result (machine.item_actions c.args.keyed) (array_action c.args.count) _ _ _ (tl.first_true c.in_ok-fine.fine (machine.item_actions c.args.keyed) _ _ c.if-not-fine.false c.in_ok-fine.ensures) c.array.ensures
