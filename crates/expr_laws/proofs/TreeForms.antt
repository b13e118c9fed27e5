-- The actions of a form make the values of its trees, by induction over the forms.
use Rattle.std.proofs.Common.{◌≡◌, ◌∙◌, ℕ, ◌+◌, true, false, List, [], ◌∷◌, ◌++◌, length, refl, ap, sym}
use Rattle.std.specs.Str.{str_to_ascii_lowercase}
use Rattle.script_grammar.specs.declared.operator.Level.{Level}
use Rattle.php_syntax.specs.Trees.{PlainExpr, text_expr, int_expr, member_expr, array_expr, call_expr, no_expr, some_expr, no_exprs, more_exprs, no_items, more_items}
use Rattle.script_grammar.specs.Expressions.{ExprForm, assign_form, update_form, choice_form, target_form, KeysForm, no_key_form, open_key_form, key_form, ChoiceForm, only_choice, short_choice, full_choice, NulForm, only_nul, coalesce_form, ChainForm, chain_form, MoreForm, no_more, once_more, one_more, OperandForm, tighter_form, tightest_form, UnaryForm, prefix_form, post_form, PostForm, base_form, after_form, before_form, int_form, text_form, template_form, constant_form, isset_form, empty_form, array_form, bracket_form, variable_base, call_base, escape_base, parens_base, SubscriptsForm, no_subscript, subscript_form, ListForm, empty_list, list_form, MoreExprsForm, no_more_exprs, one_more_expr, ItemsForm, empty_items, items_form, MoreItemsForm, end_of_items, last_comma, one_more_item, value_item, keyed_item, operator_tree, expr_tree, keys_tree, choice_tree, nul_tree, chain_tree, more_tree, operand_tree, unary_tree, post_tree, subscripts_tree, list_tree, more_exprs_tree, items_tree, more_items_tree, link_operands, lean_left, flat_join}
use Rattle.script_grammar.specs.Rules.{expr_fits, exprs_fit, items_fit, path_fits}
use Rattle.php_syntax.specs.Height.{height}
use Rattle.expr_machine.specs.Actions.{Action, unkeyed_action, prefix_action, binary_action, join_action, coalesce_action, short_choice_action, full_choice_action, member_action, read_action, assign_action, update_action, isset_action, empty_action, array_action, call_action}
use Rattle.expr_machine.specs.Postfix.{keys_count, subscripts_count, exprs_count, items_count, expr_actions, target_keys_actions, choice_actions, nul_actions, chain_actions, joined_actions, counted_actions, leaning_actions, operand_actions, unary_actions, post_actions, keys_of_actions, subscripts_actions, list_actions, more_exprs_actions, items_actions, more_items_actions}
use Rattle.expr_machine.specs.Values.{PlainValue, absent_value, value_of_tree, gather_exprs, join_value, apply, execute}
use Rattle.expr_laws.proofs.Carry.{Left, Goes, both, always, ends, tested}
use Rattle.expr_laws.proofs.TreeRows.{pushed, exprs_values, items_values, path_values}
use Rattle.expr_laws.proofs.Steps.{leaf_done, step_made, join_done, join_row, call_done, array_done}
use Rattle.expr_laws.proofs.Joined.{and_true, prefix_done, binary_done, coalesce_done, short_choice_done, full_choice_done, member_done, prefix_fits, operator_fits, template_made, chain_made_of}
use Rattle.expr_laws.proofs.Ends.{constant_made, exprs_length, items_length, assign_ends, update_ends, subscript_values, subscripts_fit, read_ends, isset_ends, empty_ends, counted_ends, longer, last_counted, more_counted}

mutual
  unfolding expr_tree expr_fits expr_actions execute apply height

  pub expr_made : (e : ExprForm) (acts : List Action) (vs : List PlainValue)
      → Goes (execute (expr_actions e acts) vs) (expr_fits (expr_tree e)) (execute acts (value_of_tree (expr_tree e) ∷ vs))
  expr_made (assign_form (target_form x ks) e) acts vs =
      assign_ends x ks (expr_tree e) _ _ acts vs (target_keys_made ks (expr_actions e (assign_action x (keys_count ks) ∷ acts)) vs) (expr_made e (assign_action x (keys_count ks) ∷ acts) (pushed (path_values (keys_tree ks)) vs))
  expr_made (update_form (target_form x ks) s u is e) acts vs =
      update_ends u x ks (expr_tree e) _ _ acts vs (target_keys_made ks (expr_actions e (update_action u x (keys_count ks) ∷ acts)) vs) (expr_made e (update_action u x (keys_count ks) ∷ acts) (pushed (path_values (keys_tree ks)) vs))
  expr_made (choice_form c) acts vs = choice_made c acts vs

  target_keys_made : (ks : KeysForm) (acts : List Action) (vs : List PlainValue)
      → Goes (execute (target_keys_actions ks acts) vs) (path_fits (keys_tree ks)) (execute acts (pushed (path_values (keys_tree ks)) vs))
  target_keys_made no_key_form acts vs = always refl
  target_keys_made (open_key_form ks) acts vs = target_keys_made ks acts (absent_value ∷ vs)
  target_keys_made (key_form e ks) acts vs = both (expr_made e (target_keys_actions ks acts) vs) (target_keys_made ks acts (value_of_tree (expr_tree e) ∷ vs))

  choice_made : (c : ChoiceForm) (acts : List Action) (vs : List PlainValue)
      → Goes (execute (choice_actions c acts) vs) (expr_fits (choice_tree c)) (execute acts (value_of_tree (choice_tree c) ∷ vs))
  choice_made (only_choice a) acts vs = nul_made a acts vs
  choice_made (short_choice a b) acts vs =
      both (nul_made a (nul_actions b (short_choice_action ∷ acts)) vs)
      (ends (nul_made b (short_choice_action ∷ acts) (value_of_tree (nul_tree a) ∷ vs)) (short_choice_done (nul_tree a) (nul_tree b) acts vs))
  choice_made (full_choice a e b) acts vs =
      both (nul_made a (expr_actions e (nul_actions b (full_choice_action ∷ acts))) vs)
      (both (expr_made e (nul_actions b (full_choice_action ∷ acts)) (value_of_tree (nul_tree a) ∷ vs))
      (ends (nul_made b (full_choice_action ∷ acts) (value_of_tree (expr_tree e) ∷ value_of_tree (nul_tree a) ∷ vs)) (full_choice_done (nul_tree a) (expr_tree e) (nul_tree b) acts vs)))

  nul_made : (n : NulForm) (acts : List Action) (vs : List PlainValue)
      → Goes (execute (nul_actions n acts) vs) (expr_fits (nul_tree n)) (execute acts (value_of_tree (nul_tree n) ∷ vs))
  nul_made (only_nul c) acts vs = chain_made c acts vs
  nul_made (coalesce_form c n) acts vs =
      both (chain_made c (nul_actions n (coalesce_action ∷ acts)) vs)
      (ends (nul_made n (coalesce_action ∷ acts) (value_of_tree (chain_tree c) ∷ vs)) (coalesce_done (chain_tree c) (nul_tree n) acts vs))

  chain_made : {l : Level} (c : ChainForm l) (acts : List Action) (vs : List PlainValue)
      → Goes (execute (chain_actions c acts) vs) (expr_fits (chain_tree c)) (execute acts (value_of_tree (chain_tree c) ∷ vs))
  chain_made (chain_form {l = l} a m) acts vs =
      chain_made_of l (operand_tree a) (more_tree m) (λ r. execute (operand_actions a r) vs) (joined_actions m acts) (leaning_actions m acts) acts vs
      (λ r. operand_made a r vs) (joined_made m (operand_tree a) acts vs) (λ x first. leaning_made m x (operand_tree a) acts vs first)

  joined_made : {l : Level} (m : MoreForm l) (a : PlainExpr) (acts : List Action) (vs : List PlainValue)
      → Goes (execute (joined_actions m acts) (value_of_tree a ∷ vs)) (exprs_fit (link_operands (more_tree m))) (execute acts (value_of_tree (flat_join a (more_tree m)) ∷ vs))
  joined_made no_more a acts vs = always refl
  joined_made (once_more s o is last b) a acts vs =
      tested (sym (and_true (expr_fits (operand_tree b))))
      (ends (operand_made b (join_action 2 ∷ acts) (value_of_tree a ∷ vs))
      (join_done (value_of_tree a ∷ value_of_tree (operand_tree b) ∷ []) 2 acts vs refl ∙ ap (λ v. execute acts (v ∷ vs)) (join_row (more_exprs a (more_exprs (operand_tree b) no_exprs)))))
  joined_made (one_more s o is on b m) a acts vs =
      both (operand_made b (counted_actions m 2 acts) (value_of_tree a ∷ vs))
      (ends (counted_made m (value_of_tree a ∷ value_of_tree (operand_tree b) ∷ []) 2 refl acts vs)
      (ap (λ v. execute acts (v ∷ vs)) (join_row (more_exprs a (more_exprs (operand_tree b) (link_operands (more_tree m)))))))

  counted_made : {l : Level} (m : MoreForm l) (row : List PlainValue) (n : ℕ) → n ≡ length row → (acts : List Action) (vs : List PlainValue)
      → Goes (execute (counted_actions m n acts) (pushed row vs)) (exprs_fit (link_operands (more_tree m))) (execute acts (join_value (gather_exprs (row ++ exprs_values (link_operands (more_tree m)))) ∷ vs))
  counted_made no_more row n i acts vs = always (counted_ends row n acts vs i)
  counted_made (once_more s o is last b) row n i acts vs =
      tested (sym (and_true (expr_fits (operand_tree b))))
      (ends (operand_made b (join_action (n + 1) ∷ acts) (pushed row vs)) (last_counted row (value_of_tree (operand_tree b)) n acts vs i))
  counted_made (one_more s o is on b m) row n i acts vs =
      both (operand_made b (counted_actions m (n + 1) acts) (pushed row vs))
      (more_counted row (exprs_values (link_operands (more_tree m))) (value_of_tree (operand_tree b)) (exprs_fit (link_operands (more_tree m))) (counted_actions m (n + 1) acts) acts vs
      (counted_made m (row ++ (value_of_tree (operand_tree b) ∷ [])) (n + 1) (longer row (value_of_tree (operand_tree b)) n i) acts vs))

  leaning_made : {l : Level} (m : MoreForm l) (x : Left) (a : PlainExpr) (acts : List Action) (vs : List PlainValue)
      → Goes x (expr_fits a) (execute (leaning_actions m acts) (value_of_tree a ∷ vs))
      → Goes x (expr_fits (lean_left a (more_tree m))) (execute acts (value_of_tree (lean_left a (more_tree m)) ∷ vs))
  leaning_made no_more x a acts vs first = first
  leaning_made (once_more s o is last b) x a acts vs first =
      tested (sym (operator_fits o a (operand_tree b)))
      (both first (ends (operand_made b (binary_action o ∷ acts) (value_of_tree a ∷ vs)) (binary_done o a (operand_tree b) acts vs)))
  leaning_made (one_more s o is on b m) x a acts vs first =
      leaning_made m x (operator_tree o a (operand_tree b)) acts vs
      (tested (sym (operator_fits o a (operand_tree b)))
      (both first (ends (operand_made b (binary_action o ∷ leaning_actions m acts) (value_of_tree a ∷ vs)) (binary_done o a (operand_tree b) (leaning_actions m acts) vs))))

  operand_made : {l : Level} (a : OperandForm l) (acts : List Action) (vs : List PlainValue)
      → Goes (execute (operand_actions a acts) vs) (expr_fits (operand_tree a)) (execute acts (value_of_tree (operand_tree a) ∷ vs))
  operand_made (tighter_form is c) acts vs = chain_made c acts vs
  operand_made (tightest_form is u) acts vs = unary_made u acts vs

  unary_made : (u : UnaryForm) (acts : List Action) (vs : List PlainValue)
      → Goes (execute (unary_actions u acts) vs) (expr_fits (unary_tree u)) (execute acts (value_of_tree (unary_tree u) ∷ vs))
  unary_made (prefix_form s p is u) acts vs =
      tested (sym (prefix_fits p (unary_tree u))) (ends (unary_made u (prefix_action p ∷ acts) vs) (prefix_done p (unary_tree u) acts vs))
  unary_made (post_form p) acts vs = post_made p acts vs

  post_made : (p : PostForm) (acts : List Action) (vs : List PlainValue)
      → Goes (execute (post_actions p acts) vs) (expr_fits (post_tree p)) (execute acts (value_of_tree (post_tree p) ∷ vs))
  post_made (base_form (variable_base x) ks) acts vs = read_ends x ks _ acts vs (keys_of_made ks (read_action x (subscripts_count ks) ∷ acts) vs)
  post_made (base_form (call_base f es) ks) acts vs =
      subscripts_made ks _ (call_expr (str_to_ascii_lowercase f) (list_tree es)) acts vs (list_made f es (subscripts_actions ks acts) vs)
  post_made (base_form (escape_base f is e q) ks) acts vs =
      subscripts_made ks _ (call_expr (str_to_ascii_lowercase f) (more_exprs (expr_tree e) no_exprs)) acts vs
      (tested (sym (and_true (expr_fits (expr_tree e))))
      (ends (expr_made e (call_action f 1 ∷ subscripts_actions ks acts) vs) (call_done f (more_exprs (expr_tree e) no_exprs) 1 (subscripts_actions ks acts) vs refl)))
  post_made (base_form (parens_base e) ks) acts vs = subscripts_made ks _ (expr_tree e) acts vs (expr_made e (subscripts_actions ks acts) vs)
  post_made (after_form x s up is) acts vs = step_made x up false acts vs
  post_made (before_form s up is x) acts vs = step_made x up true acts vs
  post_made (int_form z) acts vs = always (leaf_done (int_expr z) acts vs refl)
  post_made (text_form t) acts vs = always (leaf_done (text_expr t) acts vs refl)
  post_made (template_form ps) acts vs = template_made ps acts vs
  post_made (constant_form k e is) acts vs = constant_made k e acts vs is
  post_made (isset_form e es) acts vs =
      isset_ends (more_exprs (expr_tree e) (more_exprs_tree es)) (exprs_count es + 1) _ acts vs (exprs_length (expr_tree e) es)
      (both (expr_made e (more_exprs_actions es (isset_action (exprs_count es + 1) ∷ acts)) vs) (more_exprs_made es (isset_action (exprs_count es + 1) ∷ acts) (value_of_tree (expr_tree e) ∷ vs)))
  post_made (empty_form e) acts vs = empty_ends (expr_tree e) _ acts vs (expr_made e (empty_action ∷ acts) vs)
  post_made (array_form is) acts vs = items_made is acts vs
  post_made (bracket_form is) acts vs = items_made is acts vs

  keys_of_made : (ks : SubscriptsForm) (acts : List Action) (vs : List PlainValue)
      → Goes (execute (keys_of_actions ks acts) vs) (subscripts_fit ks) (execute acts (pushed (subscript_values ks) vs))
  keys_of_made no_subscript acts vs = always refl
  keys_of_made (subscript_form e ks) acts vs = both (expr_made e (keys_of_actions ks acts) vs) (keys_of_made ks acts (value_of_tree (expr_tree e) ∷ vs))

  subscripts_made : (ks : SubscriptsForm) (x : Left) (a : PlainExpr) (acts : List Action) (vs : List PlainValue)
      → Goes x (expr_fits a) (execute (subscripts_actions ks acts) (value_of_tree a ∷ vs))
      → Goes x (expr_fits (subscripts_tree ks a)) (execute acts (value_of_tree (subscripts_tree ks a) ∷ vs))
  subscripts_made no_subscript x a acts vs first = first
  subscripts_made (subscript_form e ks) x a acts vs first =
      subscripts_made ks x (member_expr a (expr_tree e)) acts vs
      (both first (ends (expr_made e (member_action ∷ subscripts_actions ks acts) (value_of_tree a ∷ vs)) (member_done a (expr_tree e) (subscripts_actions ks acts) vs)))

  list_made : (f : List ℕ) (es : ListForm) (acts : List Action) (vs : List PlainValue)
      → Goes (execute (list_actions f es acts) vs) (exprs_fit (list_tree es)) (execute acts (value_of_tree (call_expr (str_to_ascii_lowercase f) (list_tree es)) ∷ vs))
  list_made f empty_list acts vs = always (call_done f no_exprs 0 acts vs refl)
  list_made f (list_form e es) acts vs =
      both (expr_made e (more_exprs_actions es (call_action f (exprs_count es + 1) ∷ acts)) vs)
      (ends (more_exprs_made es (call_action f (exprs_count es + 1) ∷ acts) (value_of_tree (expr_tree e) ∷ vs))
      (call_done f (more_exprs (expr_tree e) (more_exprs_tree es)) (exprs_count es + 1) acts vs (exprs_length (expr_tree e) es)))

  more_exprs_made : (es : MoreExprsForm) (acts : List Action) (vs : List PlainValue)
      → Goes (execute (more_exprs_actions es acts) vs) (exprs_fit (more_exprs_tree es)) (execute acts (pushed (exprs_values (more_exprs_tree es)) vs))
  more_exprs_made no_more_exprs acts vs = always refl
  more_exprs_made (one_more_expr e es) acts vs = both (expr_made e (more_exprs_actions es acts) vs) (more_exprs_made es acts (value_of_tree (expr_tree e) ∷ vs))

  items_made : (is : ItemsForm) (acts : List Action) (vs : List PlainValue)
      → Goes (execute (items_actions is acts) vs) (items_fit (items_tree is)) (execute acts (value_of_tree (array_expr (items_tree is)) ∷ vs))
  items_made empty_items acts vs = always (array_done no_items 0 acts vs refl)
  items_made (items_form (value_item e) is) acts vs =
      both (expr_made e (unkeyed_action ∷ more_items_actions is (array_action (items_count is + 1) ∷ acts)) vs)
      (ends (more_items_made is (array_action (items_count is + 1) ∷ acts) (value_of_tree (expr_tree e) ∷ absent_value ∷ vs))
      (array_done (more_items no_expr (expr_tree e) (more_items_tree is)) (items_count is + 1) acts vs (items_length is absent_value (value_of_tree (expr_tree e)))))
  items_made (items_form (keyed_item k e) is) acts vs =
      both (expr_made k (expr_actions e (more_items_actions is (array_action (items_count is + 1) ∷ acts))) vs)
      (both (expr_made e (more_items_actions is (array_action (items_count is + 1) ∷ acts)) (value_of_tree (expr_tree k) ∷ vs))
      (ends (more_items_made is (array_action (items_count is + 1) ∷ acts) (value_of_tree (expr_tree e) ∷ value_of_tree (expr_tree k) ∷ vs))
      (array_done (more_items (some_expr (expr_tree k)) (expr_tree e) (more_items_tree is)) (items_count is + 1) acts vs (items_length is (value_of_tree (expr_tree k)) (value_of_tree (expr_tree e))))))

  more_items_made : (is : MoreItemsForm) (acts : List Action) (vs : List PlainValue)
      → Goes (execute (more_items_actions is acts) vs) (items_fit (more_items_tree is)) (execute acts (pushed (items_values (more_items_tree is)) vs))
  more_items_made end_of_items acts vs = always refl
  more_items_made last_comma acts vs = always refl
  more_items_made (one_more_item (value_item e) is) acts vs =
      both (expr_made e (unkeyed_action ∷ more_items_actions is acts) vs) (more_items_made is acts (value_of_tree (expr_tree e) ∷ absent_value ∷ vs))
  more_items_made (one_more_item (keyed_item k e) is) acts vs =
      both (expr_made k (expr_actions e (more_items_actions is acts)) vs)
      (both (expr_made e (more_items_actions is acts) (value_of_tree (expr_tree k) ∷ vs)) (more_items_made is acts (value_of_tree (expr_tree e) ∷ value_of_tree (expr_tree k) ∷ vs)))
