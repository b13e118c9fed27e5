-- The tree of each form of an expression, whose terminals can be written, is spellable.
use Rattle.std.proofs.Common.{◌≡◌, Bool, true, ◌&&◌, List, ◌∷◌, refl}
use Rattle.std.specs.Str.{str_to_ascii_lowercase}
use Rattle.php_syntax.specs.declared.token.Sign.TheVariants as signs
use Rattle.script_grammar.specs.declared.operator.Level.{Level}
use Rattle.php_syntax.specs.Trees.{PlainExpr, member_expr}
use Rattle.script_grammar.specs.Terminals.{Terminal, sign_terminal}
use Rattle.script_grammar.specs.Expressions.{ExprForm, assign_form, update_form, choice_form, TargetForm, target_form, KeysForm, no_key_form, open_key_form, key_form, ChoiceForm, only_choice, short_choice, full_choice, NulForm, only_nul, coalesce_form, ChainForm, chain_form, MoreForm, no_more, once_more, one_more, OperandForm, tighter_form, tightest_form, UnaryForm, prefix_form, post_form, PostForm, base_form, after_form, before_form, int_form, text_form, template_form, constant_form, isset_form, empty_form, array_form, bracket_form, BaseForm, variable_base, call_base, escape_base, parens_base, QuotesForm, only_quotes, quotes_and_charset, SubscriptsForm, no_subscript, subscript_form, ListForm, empty_list, list_form, MoreExprsForm, no_more_exprs, one_more_expr, ItemsForm, empty_items, items_form, MoreItemsForm, end_of_items, last_comma, one_more_item, ItemForm, value_item, keyed_item, quotes_terminals, expr_terminals, target_terminals, keys_terminals, choice_terminals, nul_terminals, chain_terminals, more_terminals, operand_terminals, unary_terminals, post_terminals, base_terminals, subscripts_terminals, list_terminals, more_exprs_terminals, items_terminals, more_items_terminals, item_terminals, expr_tree, target_form_name, target_form_path, keys_tree, choice_tree, nul_tree, chain_tree, more_tree, operand_tree, unary_tree, post_tree, base_tree, subscripts_tree, list_tree, more_exprs_tree, items_tree, more_items_tree}
use Rattle.spellable.specs.Spellable.{is_name, is_call_name, expr_spellable, exprs_spellable, items_spellable, path_spellable}
use Rattle.spellable.proofs.BackNames.{and_true, name_of, lower_call_name}
use Rattle.spellable.proofs.BackParts.{EachTerminal, EachLink, variable_spells, template_spells, constant_spells, unsigned_spells, prefix_spells, chain_spells}

-- a test that holds, and terminals that are left
abbrev pub And : Bool → List Terminal → Type 0
And b r = (b ≡ true) × EachTerminal r

-- the parts of an item
abbrev pub ItemSpells : ItemForm → Type 0
ItemSpells (value_item e) = expr_spellable (expr_tree e) ≡ true
ItemSpells (keyed_item k e) = (expr_spellable (expr_tree k) ≡ true) × (expr_spellable (expr_tree e) ≡ true)

first_item : (i : ItemForm) (is : MoreItemsForm) → ItemSpells i → items_spellable (more_items_tree is) ≡ true → items_spellable (items_tree (items_form i is)) ≡ true
unfolding expr_tree expr_spellable
first_item (value_item e) is h k = and_true (expr_spellable (expr_tree e)) (items_spellable (more_items_tree is)) h k
first_item (keyed_item l e) is h k = and_true (expr_spellable (expr_tree l)) (expr_spellable (expr_tree e) && items_spellable (more_items_tree is)) h.0 (and_true (expr_spellable (expr_tree e)) (items_spellable (more_items_tree is)) h.1 k)

more_item : (i : ItemForm) (is : MoreItemsForm) → ItemSpells i → items_spellable (more_items_tree is) ≡ true → items_spellable (more_items_tree (one_more_item i is)) ≡ true
unfolding expr_tree expr_spellable
more_item (value_item e) is h k = and_true (expr_spellable (expr_tree e)) (items_spellable (more_items_tree is)) h k
more_item (keyed_item l e) is h k = and_true (expr_spellable (expr_tree l)) (expr_spellable (expr_tree e) && items_spellable (more_items_tree is)) h.0 (and_true (expr_spellable (expr_tree e)) (items_spellable (more_items_tree is)) h.1 k)

quotes_back : (q : QuotesForm) (r : List Terminal) → EachTerminal (quotes_terminals q r) → EachTerminal r
quotes_back only_quotes r h = h.1
quotes_back (quotes_and_charset t is) r h = h.1.1.1

mutual
  unfolding expr_terminals expr_tree expr_spellable

  pub expr_back : (f : ExprForm) (r : List Terminal) → EachTerminal (expr_terminals f r) → And (expr_spellable (expr_tree f)) r
  expr_back (assign_form t e) r h =
      let one = target_back t (sign_terminal signs.Assign ∷ expr_terminals e r) h in let two = expr_back e r one.2.1
      in (and_true (is_name (target_form_name t)) (path_spellable (target_form_path t) && expr_spellable (expr_tree e)) one.0 (and_true (path_spellable (target_form_path t)) (expr_spellable (expr_tree e)) one.1 two.0), two.1)
  expr_back (update_form t s u is e) r h =
      let one = target_back t (sign_terminal s ∷ expr_terminals e r) h in let two = expr_back e r one.2.1
      in (and_true (is_name (target_form_name t)) (path_spellable (target_form_path t) && expr_spellable (expr_tree e)) one.0 (and_true (path_spellable (target_form_path t)) (expr_spellable (expr_tree e)) one.1 two.0), two.1)
  expr_back (choice_form c) r h = choice_back c r h

  target_back : (t : TargetForm) (r : List Terminal) → EachTerminal (target_terminals t r) → (is_name (target_form_name t) ≡ true) × (path_spellable (target_form_path t) ≡ true) × EachTerminal r
  target_back (target_form x ks) r h = let one = keys_back ks r h.1 in (name_of x h.0, one.0, one.1)

  keys_back : (ks : KeysForm) (r : List Terminal) → EachTerminal (keys_terminals ks r) → And (path_spellable (keys_tree ks)) r
  keys_back no_key_form r h = (refl, h)
  keys_back (open_key_form ks) r h = keys_back ks r h.1.1
  keys_back (key_form e ks) r h = let one = expr_back e (sign_terminal signs.CloseBracket ∷ keys_terminals ks r) h.1 in let two = keys_back ks r one.1.1 in (and_true (expr_spellable (expr_tree e)) (path_spellable (keys_tree ks)) one.0 two.0, two.1)

  choice_back : (c : ChoiceForm) (r : List Terminal) → EachTerminal (choice_terminals c r) → And (expr_spellable (choice_tree c)) r
  choice_back (only_choice a) r h = nul_back a r h
  choice_back (short_choice a b) r h = let one = nul_back a (sign_terminal signs.Question ∷ sign_terminal signs.Colon ∷ nul_terminals b r) h in let two = nul_back b r one.1.1.1 in (and_true (expr_spellable (nul_tree a)) (expr_spellable (nul_tree b)) one.0 two.0, two.1)
  choice_back (full_choice a e b) r h =
      let one = nul_back a (sign_terminal signs.Question ∷ expr_terminals e (sign_terminal signs.Colon ∷ nul_terminals b r)) h in let two = expr_back e (sign_terminal signs.Colon ∷ nul_terminals b r) one.1.1 in let three = nul_back b r two.1.1
      in (and_true (expr_spellable (nul_tree a)) (expr_spellable (expr_tree e) && expr_spellable (nul_tree b)) one.0 (and_true (expr_spellable (expr_tree e)) (expr_spellable (nul_tree b)) two.0 three.0), three.1)

  nul_back : (n : NulForm) (r : List Terminal) → EachTerminal (nul_terminals n r) → And (expr_spellable (nul_tree n)) r
  nul_back (only_nul c) r h = chain_back c r h
  nul_back (coalesce_form c n) r h = let one = chain_back c (sign_terminal signs.Coalesce ∷ nul_terminals n r) h in let two = nul_back n r one.1.1 in (and_true (expr_spellable (chain_tree c)) (expr_spellable (nul_tree n)) one.0 two.0, two.1)

  chain_back : {l : Level} (c : ChainForm l) (r : List Terminal) → EachTerminal (chain_terminals c r) → And (expr_spellable (chain_tree c)) r
  chain_back (chain_form {l = l} a m) r h = let one = operand_back a (more_terminals m r) h in let two = more_back m r one.1 in (chain_spells l (operand_tree a) (more_tree m) one.0 two.0, two.1)

  more_back : {l : Level} (m : MoreForm l) (r : List Terminal) → EachTerminal (more_terminals m r) → EachLink (more_tree m) × EachTerminal r
  more_back no_more r h = (tt, h)
  more_back (once_more s o is last a) r h = let one = operand_back a r h.1 in ((one.0, tt), one.1)
  more_back (one_more s o is on a m) r h = let one = operand_back a (more_terminals m r) h.1 in let two = more_back m r one.1 in ((one.0, two.0), two.1)

  operand_back : {l : Level} (a : OperandForm l) (r : List Terminal) → EachTerminal (operand_terminals a r) → And (expr_spellable (operand_tree a)) r
  operand_back (tighter_form is c) r h = chain_back c r h
  operand_back (tightest_form is u) r h = unary_back u r h

  unary_back : (u : UnaryForm) (r : List Terminal) → EachTerminal (unary_terminals u r) → And (expr_spellable (unary_tree u)) r
  unary_back (prefix_form s p is u) r h = let one = unary_back u r h.1 in (prefix_spells p (unary_tree u) one.0, one.1)
  unary_back (post_form p) r h = post_back p r h

  post_back : (p : PostForm) (r : List Terminal) → EachTerminal (post_terminals p r) → And (expr_spellable (post_tree p)) r
  post_back (base_form b ks) r h = let one = base_back b (subscripts_terminals ks r) h in subscripts_back ks (base_tree b) r one.0 one.1
  post_back (after_form x s up is) r h = (name_of x h.0, h.1.1)
  post_back (before_form s up is x) r h = (name_of x h.1.0, h.1.1)
  post_back (int_form z) r h = (unsigned_spells z h.0, h.1)
  post_back (text_form t) r h = (refl, h.1)
  post_back (template_form ps) r h = (template_spells ps h.0.0 h.0.1, h.1)
  post_back (constant_form k e is) r h = (constant_spells k e is, h.1)
  post_back (isset_form e es) r h = let one = expr_back e (more_exprs_terminals es (sign_terminal signs.CloseParen ∷ r)) h.1.1 in let two = more_exprs_back es (sign_terminal signs.CloseParen ∷ r) one.1 in (and_true (expr_spellable (expr_tree e)) (exprs_spellable (more_exprs_tree es)) one.0 two.0, two.1.1)
  post_back (empty_form e) r h = let one = expr_back e (sign_terminal signs.CloseParen ∷ r) h.1.1 in (one.0, one.1.1)
  post_back (array_form is) r h = let one = items_back is (sign_terminal signs.CloseParen ∷ r) h.1.1 in (one.0, one.1.1)
  post_back (bracket_form is) r h = let one = items_back is (sign_terminal signs.CloseBracket ∷ r) h.1 in (one.0, one.1.1)

  base_back : (b : BaseForm) (r : List Terminal) → EachTerminal (base_terminals b r) → And (expr_spellable (base_tree b)) r
  base_back (variable_base x) r h = (variable_spells x h.0, h.1)
  base_back (call_base f es) r h = let one = list_back es (sign_terminal signs.CloseParen ∷ r) h.1.1 in (and_true (is_call_name (str_to_ascii_lowercase f)) (exprs_spellable (list_tree es)) (lower_call_name f h.0.0 h.0.1) one.0, one.1.1)
  base_back (escape_base f is e q) r h =
      let one = expr_back e (sign_terminal signs.Comma ∷ quotes_terminals q (sign_terminal signs.CloseParen ∷ r)) h.1.1 in let rest = quotes_back q (sign_terminal signs.CloseParen ∷ r) one.1.1
      in (and_true (is_call_name (str_to_ascii_lowercase f)) (expr_spellable (expr_tree e) && true) (lower_call_name f h.0.0 h.0.1) (and_true (expr_spellable (expr_tree e)) true one.0 refl), rest.1)
  base_back (parens_base e) r h = let one = expr_back e (sign_terminal signs.CloseParen ∷ r) h.1 in (one.0, one.1.1)

  subscripts_back : (ks : SubscriptsForm) (a : PlainExpr) (r : List Terminal) → expr_spellable a ≡ true → EachTerminal (subscripts_terminals ks r) → And (expr_spellable (subscripts_tree ks a)) r
  subscripts_back no_subscript a r g h = (g, h)
  subscripts_back (subscript_form e ks) a r g h = let one = expr_back e (sign_terminal signs.CloseBracket ∷ subscripts_terminals ks r) h.1 in subscripts_back ks (member_expr a (expr_tree e)) r (and_true (expr_spellable a) (expr_spellable (expr_tree e)) g one.0) one.1.1

  pub list_back : (es : ListForm) (r : List Terminal) → EachTerminal (list_terminals es r) → And (exprs_spellable (list_tree es)) r
  list_back empty_list r h = (refl, h)
  list_back (list_form e es) r h = let one = expr_back e (more_exprs_terminals es r) h in let two = more_exprs_back es r one.1 in (and_true (expr_spellable (expr_tree e)) (exprs_spellable (more_exprs_tree es)) one.0 two.0, two.1)

  pub more_exprs_back : (es : MoreExprsForm) (r : List Terminal) → EachTerminal (more_exprs_terminals es r) → And (exprs_spellable (more_exprs_tree es)) r
  more_exprs_back no_more_exprs r h = (refl, h)
  more_exprs_back (one_more_expr e es) r h = let one = expr_back e (more_exprs_terminals es r) h.1 in let two = more_exprs_back es r one.1 in (and_true (expr_spellable (expr_tree e)) (exprs_spellable (more_exprs_tree es)) one.0 two.0, two.1)

  items_back : (is : ItemsForm) (r : List Terminal) → EachTerminal (items_terminals is r) → And (items_spellable (items_tree is)) r
  items_back empty_items r h = (refl, h)
  items_back (items_form i is) r h = let one = item_back i (more_items_terminals is r) h in let two = more_items_back is r one.1 in (first_item i is one.0 two.0, two.1)

  more_items_back : (is : MoreItemsForm) (r : List Terminal) → EachTerminal (more_items_terminals is r) → And (items_spellable (more_items_tree is)) r
  more_items_back end_of_items r h = (refl, h)
  more_items_back last_comma r h = (refl, h.1)
  more_items_back (one_more_item i is) r h = let one = item_back i (more_items_terminals is r) h.1 in let two = more_items_back is r one.1 in (more_item i is one.0 two.0, two.1)

  item_back : (i : ItemForm) (r : List Terminal) → EachTerminal (item_terminals i r) → ItemSpells i × EachTerminal r
  item_back (value_item e) r h = expr_back e r h
  item_back (keyed_item k e) r h = let one = expr_back k (sign_terminal signs.DoubleArrow ∷ expr_terminals e r) h in let two = expr_back e r one.1.1 in ((one.0, two.0), two.1)
