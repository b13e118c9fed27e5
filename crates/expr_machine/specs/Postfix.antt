-- The actions of an expression in postfix order, by its derivation. They stand before the actions that follow.
use Rattle.std.specs.Prelude.{ℕ, ◌+◌, Bool, true, false, List, ◌∷◌, if◌then◌else◌}
use Rattle.script_grammar.specs.declared.operator.Level.{Level}
use Rattle.script_grammar.specs.declared.operator.Level.TheVariants as level
use Rattle.php_syntax.specs.Trees.{int_expr, text_expr}
use Rattle.script_grammar.specs.Expressions.{ExprForm, assign_form, update_form, choice_form, target_form, KeysForm, no_key_form, open_key_form, key_form, ChoiceForm, only_choice, short_choice, full_choice, NulForm, only_nul, coalesce_form, ChainForm, chain_form, MoreForm, no_more, once_more, one_more, OperandForm, tighter_form, tightest_form, UnaryForm, prefix_form, post_form, PostForm, base_form, after_form, before_form, int_form, text_form, template_form, constant_form, isset_form, empty_form, array_form, bracket_form, variable_base, call_base, escape_base, parens_base, SubscriptsForm, no_subscript, subscript_form, ListForm, empty_list, list_form, MoreExprsForm, no_more_exprs, one_more_expr, ItemsForm, empty_items, items_form, MoreItemsForm, end_of_items, last_comma, one_more_item, ItemForm, value_item, keyed_item}
use Rattle.expr_machine.specs.Actions.{Action, leaf_action, absent_action, unkeyed_action, prefix_action, binary_action, join_action, coalesce_action, short_choice_action, full_choice_action, member_action, read_action, assign_action, update_action, step_action, isset_action, empty_action, array_action, call_action, template_actions}

-- how many keys, subscripts, further expressions and further items there are
abbrev pub keys_count : KeysForm → ℕ
keys_count no_key_form = 0
keys_count (open_key_form ks) = 1 + keys_count ks
keys_count (key_form e ks) = 1 + keys_count ks

-- how many subscripts there are
abbrev pub subscripts_count : SubscriptsForm → ℕ
subscripts_count no_subscript = 0
subscripts_count (subscript_form e ks) = 1 + subscripts_count ks

-- how many further expressions there are, that before them not counted
abbrev pub exprs_count : MoreExprsForm → ℕ
exprs_count no_more_exprs = 0
exprs_count (one_more_expr e es) = 1 + exprs_count es

-- how many further items there are, that before them not counted
abbrev pub items_count : MoreItemsForm → ℕ
items_count end_of_items = 0
items_count last_comma = 0
items_count (one_more_item i is) = 1 + items_count is

-- whether a level is that of `.`, whose chains are flat
abbrev pub is_flat : Level → Bool
is_flat level.Join = true
is_flat _ = false

unfoldable mutual
  -- the actions of an expression: an assignment is made behind its keys and its right side
  pub expr_actions : ExprForm → List Action → List Action
  expr_actions (assign_form (target_form x ks) e) r = target_keys_actions ks (expr_actions e (assign_action x (keys_count ks) ∷ r))
  expr_actions (update_form (target_form x ks) s u is e) r = target_keys_actions ks (expr_actions e (update_action u x (keys_count ks) ∷ r))
  expr_actions (choice_form c) r = choice_actions c r

  -- the actions of the keys of a target, one for a key that is left out too
  pub target_keys_actions : KeysForm → List Action → List Action
  target_keys_actions no_key_form r = r
  target_keys_actions (open_key_form ks) r = absent_action ∷ target_keys_actions ks r
  target_keys_actions (key_form e ks) r = expr_actions e (target_keys_actions ks r)

  -- the actions of a choice by `?:`
  pub choice_actions : ChoiceForm → List Action → List Action
  choice_actions (only_choice a) r = nul_actions a r
  choice_actions (short_choice a b) r = nul_actions a (nul_actions b (short_choice_action ∷ r))
  choice_actions (full_choice a e b) r = nul_actions a (expr_actions e (nul_actions b (full_choice_action ∷ r)))

  -- the actions of a chain of `??`, which leans right
  pub nul_actions : NulForm → List Action → List Action
  nul_actions (only_nul c) r = chain_actions c r
  nul_actions (coalesce_form c n) r = chain_actions c (nul_actions n (coalesce_action ∷ r))

  -- the actions of a chain of a binary level: its first operand, and what follows it
  pub chain_actions : {l : Level} → ChainForm l → List Action → List Action
  chain_actions (chain_form {l = l} a m) r = operand_actions a (if is_flat l then joined_actions m r else leaning_actions m r)

  -- what follows the first operand of a flat chain, and of one that leans left
  pub joined_actions : {l : Level} → MoreForm l → List Action → List Action
  joined_actions no_more r = r
  joined_actions (once_more s o is last a) r = operand_actions a (join_action 2 ∷ r)
  joined_actions (one_more s o is on a m) r = operand_actions a (counted_actions m 2 r)

  -- with the number of operands before
  pub counted_actions : {l : Level} → MoreForm l → ℕ → List Action → List Action
  counted_actions no_more n r = join_action n ∷ r
  counted_actions (once_more s o is last a) n r = operand_actions a (join_action (n + 1) ∷ r)
  counted_actions (one_more s o is on a m) n r = operand_actions a (counted_actions m (n + 1) r)

  -- what follows the first operand of a chain that leans left: each operand with its operator behind it
  pub leaning_actions : {l : Level} → MoreForm l → List Action → List Action
  leaning_actions no_more r = r
  leaning_actions (once_more s o is last a) r = operand_actions a (binary_action o ∷ r)
  leaning_actions (one_more s o is on a m) r = operand_actions a (binary_action o ∷ leaning_actions m r)

  -- the actions of an operand of a level
  pub operand_actions : {l : Level} → OperandForm l → List Action → List Action
  operand_actions (tighter_form is c) r = chain_actions c r
  operand_actions (tightest_form is u) r = unary_actions u r

  -- the actions of a unary operand: the prefix operators behind what they stand before
  pub unary_actions : UnaryForm → List Action → List Action
  unary_actions (prefix_form s p is u) r = unary_actions u (prefix_action p ∷ r)
  unary_actions (post_form p) r = post_actions p r

  -- the actions of what no binary or prefix operator joins
  pub post_actions : PostForm → List Action → List Action
  post_actions (base_form (variable_base x) ks) r = keys_of_actions ks (read_action x (subscripts_count ks) ∷ r)
  post_actions (base_form (call_base f es) ks) r = list_actions f es (subscripts_actions ks r)
  post_actions (base_form (escape_base f is e q) ks) r = expr_actions e (call_action f 1 ∷ subscripts_actions ks r)
  post_actions (base_form (parens_base e) ks) r = expr_actions e (subscripts_actions ks r)
  post_actions (after_form x s up is) r = step_action x up false ∷ r
  post_actions (before_form s up is x) r = step_action x up true ∷ r
  post_actions (int_form z) r = leaf_action (int_expr z) ∷ r
  post_actions (text_form t) r = leaf_action (text_expr t) ∷ r
  post_actions (template_form ps) r = template_actions ps r
  post_actions (constant_form k e is) r = leaf_action e ∷ r
  post_actions (isset_form e es) r = expr_actions e (more_exprs_actions es (isset_action (exprs_count es + 1) ∷ r))
  post_actions (empty_form e) r = expr_actions e (empty_action ∷ r)
  post_actions (array_form is) r = items_actions is r
  post_actions (bracket_form is) r = items_actions is r

  -- the keys of a variable, and the subscripts of another value
  pub keys_of_actions : SubscriptsForm → List Action → List Action
  keys_of_actions no_subscript r = r
  keys_of_actions (subscript_form e ks) r = expr_actions e (keys_of_actions ks r)

  -- the subscripts of a value that is no variable: each makes a member of what stands before it
  pub subscripts_actions : SubscriptsForm → List Action → List Action
  subscripts_actions no_subscript r = r
  subscripts_actions (subscript_form e ks) r = expr_actions e (member_action ∷ subscripts_actions ks r)

  -- the arguments of a call, and the call
  pub list_actions : List ℕ → ListForm → List Action → List Action
  list_actions f empty_list r = call_action f 0 ∷ r
  list_actions f (list_form e es) r = expr_actions e (more_exprs_actions es (call_action f (exprs_count es + 1) ∷ r))

  -- the actions of further expressions
  pub more_exprs_actions : MoreExprsForm → List Action → List Action
  more_exprs_actions no_more_exprs r = r
  more_exprs_actions (one_more_expr e es) r = expr_actions e (more_exprs_actions es r)

  -- the actions of the items of an array, and the array behind them
  pub items_actions : ItemsForm → List Action → List Action
  items_actions empty_items r = array_action 0 ∷ r
  items_actions (items_form i is) r = item_form_actions i (more_items_actions is (array_action (items_count is + 1) ∷ r))

  -- the actions of further items
  pub more_items_actions : MoreItemsForm → List Action → List Action
  more_items_actions end_of_items r = r
  more_items_actions last_comma r = r
  more_items_actions (one_more_item i is) r = item_form_actions i (more_items_actions is r)

  -- the actions of an item: its key, if it has one, and its value
  pub item_form_actions : ItemForm → List Action → List Action
  item_form_actions (value_item e) r = expr_actions e (unkeyed_action ∷ r)
  item_form_actions (keyed_item k e) r = expr_actions k (expr_actions e r)
