-- What a reader of an expression does to the values that it has made, in postfix order: the operands first, then what joins them.
use Rattle.std.specs.Prelude.{ℕ, Bool, List, [], ◌∷◌, length}
use Rattle.php_syntax.specs.declared.tree.UpdateSign.{UpdateSign}
use Rattle.script_grammar.specs.declared.operator.Operator.{Operator}
use Rattle.script_grammar.specs.declared.operator.Prefix.{Prefix}
use Rattle.php_syntax.specs.Tokens.{PlainKey, text_key, int_key, var_key, PlainPart, plain_part, read_part}
use Rattle.php_syntax.specs.Trees.{PlainExpr, text_expr, int_expr}

-- one thing done to the values that were made so far
pub data Action : Type 0 where
  -- a literal is made
  leaf_action : PlainExpr → Action
  -- a variable is made, by its name
  variable_action : List ℕ → Action
  -- a key is left out
  absent_action : Action
  -- the last value is that of an item without a key
  unkeyed_action : Action
  prefix_action : Prefix → Action
  -- an operator of a level that leans left
  binary_action : Operator → Action
  -- so many operands of `.`
  join_action : ℕ → Action
  coalesce_action : Action
  -- `?:` of two operands, and of three
  short_choice_action : Action
  full_choice_action : Action
  -- a member of the value before the last one
  member_action : Action
  -- a member of a variable by so many keys
  read_action : List ℕ → ℕ → Action
  -- assignments to a variable by so many keys
  assign_action : List ℕ → ℕ → Action
  update_action : UpdateSign → List ℕ → ℕ → Action
  -- a variable goes up or down, and whether the sign stands before it
  step_action : List ℕ → Bool → Bool → Action
  isset_action : ℕ → Action
  empty_action : Action
  -- so many items
  array_action : ℕ → Action
  -- so many arguments
  call_action : List ℕ → ℕ → Action

-- The actions of the parts of a template stand before those that follow.
abbrev pub key_action : PlainKey → Action
key_action (text_key t) = leaf_action (text_expr t)
key_action (int_key z) = leaf_action (int_expr z)
key_action (var_key x) = variable_action x

-- the actions of a variable's keys in a template, each of which makes a member, before those that follow
abbrev pub keys_actions : List PlainKey → List Action → List Action
keys_actions [] r = r
keys_actions (k ∷ ks) r = key_action k ∷ member_action ∷ keys_actions ks r

-- the actions of a part of a template, before those that follow
abbrev pub part_actions : PlainPart → List Action → List Action
part_actions (plain_part t) r = leaf_action (text_expr t) ∷ r
part_actions (read_part x ks) r = variable_action x ∷ keys_actions ks r

-- the actions of the parts of a template in their order, before those that follow
abbrev pub parts_actions : List PlainPart → List Action → List Action
parts_actions [] r = r
parts_actions (p ∷ ps) r = part_actions p (parts_actions ps r)

-- a template is the join of its parts
abbrev pub template_actions : List PlainPart → List Action → List Action
template_actions ps r = parts_actions ps (join_action (length ps) ∷ r)
