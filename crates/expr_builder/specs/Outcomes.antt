-- How the code answers what was done with the values.
use Rattle.std.specs.Prelude.{◌≡◌, Bool, true, false, List, [], ◌∷◌, map, Option, Some, None}
use Rattle.php_syntax.specs.Tokens.{plain_part_of}
use Rattle.php_syntax.specs.Trees.{plain_expr}
use Rattle.expr_machine.specs.Actions as plain
use Rattle.expr_machine.specs.Actions.{template_actions, array_action}
use Rattle.expr_machine.specs.Machine.{item_actions}
use Rattle.expr_machine.specs.Values.{PlainValue, execute}
use Rattle.expr_builder.specs.declared.action.Action.{Action}
use Rattle.expr_builder.specs.declared.action.Action.TheVariants as action
use Rattle.expr_builder.specs.declared.action.Actions.{Actions}
use Rattle.expr_builder.specs.declared.action.Actions.TheVariants as some

-- what the code did with the values: all that was asked, or nothing goes on
abbrev pub Applied : Bool → Option (List PlainValue) → List PlainValue → Type 0
Applied true found vs = found ≡ Some vs
Applied false found vs = found ≡ None

-- the same, of actions that stand before others
abbrev pub AppliedFirst : Bool → (List plain.Action → List plain.Action) → List PlainValue → List PlainValue → Type 0
AppliedFirst true acts vs ws = (r : List plain.Action) → execute (acts r) vs ≡ execute r ws
AppliedFirst false acts vs ws = (r : List plain.Action) → execute (acts r) vs ≡ None

-- an action of the code, and those of one move
abbrev pub plain_action : Action → plain.Action
plain_action (action.Leaf e) = plain.leaf_action (plain_expr e)
plain_action action.Absent = plain.absent_action
plain_action (action.Prefix p) = plain.prefix_action p
plain_action (action.Binary o) = plain.binary_action o
plain_action (action.Join n) = plain.join_action n
plain_action action.Coalesce = plain.coalesce_action
plain_action action.ShortChoice = plain.short_choice_action
plain_action action.FullChoice = plain.full_choice_action
plain_action action.Member = plain.member_action
plain_action (action.Read x n) = plain.read_action x n
plain_action (action.Assign x n) = plain.assign_action x n
plain_action (action.Update u x n) = plain.update_action u x n
plain_action (action.Step x up before) = plain.step_action x up before
plain_action (action.Isset n) = plain.isset_action n
plain_action action.Empty = plain.empty_action
plain_action (action.Array n) = plain.array_action n
plain_action (action.Call f n) = plain.call_action f n

-- the actions of one move in their order
abbrev pub plain_actions : Actions → List plain.Action
plain_actions some.Nothing = []
plain_actions (some.One a) = plain_action a ∷ []
plain_actions (some.Template ps) = template_actions (map plain_part_of ps.now) []
plain_actions (some.Item keyed) = item_actions keyed []
plain_actions (some.Items keyed n) = item_actions keyed (array_action n ∷ [])
