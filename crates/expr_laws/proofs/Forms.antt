-- Each form is read, by one induction over the forms.
use Rattle.script_grammar.specs.declared.operator.Level.{Level}
use Rattle.script_grammar.specs.Expressions.{ExprForm, assign_form, update_form, choice_form, target_form, KeysForm, no_key_form, open_key_form, key_form, ChoiceForm, only_choice, short_choice, full_choice, NulForm, only_nul, coalesce_form, ChainForm, chain_form, MoreForm, no_more, once_more, one_more, OperandForm, tighter_form, tightest_form, UnaryForm, prefix_form, post_form, PostForm, base_form, after_form, before_form, int_form, text_form, template_form, constant_form, isset_form, empty_form, array_form, bracket_form, variable_base, call_base, escape_base, parens_base, SubscriptsForm, no_subscript, subscript_form, empty_list, list_form, MoreExprsForm, no_more_exprs, one_more_expr, empty_items, items_form, MoreItemsForm, end_of_items, last_comma, one_more_item, ItemForm, value_item, keyed_item}
use Rattle.expr_laws.proofs.Claims.{ExprReads, KeysRead, ChoiceReads, NulReads, ChainReads, Leans, Joins, Counts, OperandReads, UnaryReads, PostReads, PlaceReads, SubscriptsRead, ArgumentsRead, IssetReads, ItemReads, MoreItemsRead}
use Rattle.expr_laws.proofs.Chains as chains
use Rattle.expr_laws.proofs.Wholes as wholes
use Rattle.expr_laws.proofs.Posts as posts
use Rattle.expr_laws.proofs.Rows as rows
use Rattle.expr_laws.proofs.Items as items

mutual
  pub expr_reads : (e : ExprForm) → ExprReads e
  expr_reads (assign_form (target_form x ks) e) = wholes.assign_reads x ks e (keys_read ks) (expr_reads e)
  expr_reads (update_form (target_form x ks) s u is e) = wholes.update_reads x ks s u is e (keys_read ks) (expr_reads e)
  expr_reads (choice_form c) = wholes.choice_form_reads c (choice_reads c)

  keys_read : (ks : KeysForm) → KeysRead ks
  keys_read no_key_form = wholes.no_key_reads
  keys_read (open_key_form ks) = wholes.open_key_reads ks (keys_read ks)
  keys_read (key_form e ks) = wholes.key_reads e ks (expr_reads e) (keys_read ks)

  choice_reads : (c : ChoiceForm) → ChoiceReads c
  choice_reads (only_choice a) = wholes.only_choice_reads a (nul_reads a)
  choice_reads (short_choice a b) = wholes.short_choice_reads a b (nul_reads a) (nul_reads b)
  choice_reads (full_choice a e b) = wholes.full_choice_reads a e b (nul_reads a) (expr_reads e) (nul_reads b)

  nul_reads : (n : NulForm) → NulReads n
  nul_reads (only_nul c) = wholes.only_nul_reads c (chain_reads c)
  nul_reads (coalesce_form c n) = wholes.coalesce_reads c n (chain_reads c) (nul_reads n)

  chain_reads : {l : Level} (c : ChainForm l) → ChainReads c
  chain_reads (chain_form a m) = chains.chain_reads a m (operand_reads a) (leans m) (joins m)

  leans : {l : Level} (m : MoreForm l) → Leans m
  leans no_more = chains.leans_no_more
  leans (once_more s o is last a) = chains.leans_once_more s o is last a (operand_reads a)
  leans (one_more s o is on a m) = chains.leans_one_more s o is on a m (operand_reads a) (leans m)

  joins : {l : Level} (m : MoreForm l) → Joins m
  joins no_more = chains.joins_no_more
  joins (once_more s o is last a) = chains.joins_once_more s o is last a
  joins (one_more s o is on a m) = chains.joins_one_more s o is on a m (operand_reads a) (counts m)

  counts : {l : Level} (m : MoreForm l) → Counts m
  counts no_more = chains.counts_no_more
  counts (once_more s o is last a) = chains.counts_once_more s o is last a
  counts (one_more s o is on a m) = chains.counts_one_more s o is on a m (operand_reads a) (counts m)

  operand_reads : {l : Level} (a : OperandForm l) → OperandReads a
  operand_reads (tighter_form is c) = chains.tighter_reads is c (chain_reads c)
  operand_reads (tightest_form is u) = chains.tightest_reads is u (unary_reads u)

  unary_reads : (u : UnaryForm) → UnaryReads u
  unary_reads (prefix_form s p is u) = chains.prefix_reads s p is u (unary_reads u)
  unary_reads (post_form p) = chains.post_reads p (post_reads p)

  post_reads : (p : PostForm) → PostReads p
  post_reads (base_form (variable_base x) ks) = posts.variable_reads x ks (place_reads ks)
  post_reads (base_form (call_base f empty_list) ks) = posts.empty_call_reads f ks (subscripts_read ks)
  post_reads (base_form (call_base f (list_form e es)) ks) = posts.call_reads f e es ks (expr_reads e) (arguments_read es) (subscripts_read ks)
  post_reads (base_form (escape_base f is e q) ks) = posts.escape_reads f is e q ks (expr_reads e) (subscripts_read ks)
  post_reads (base_form (parens_base e) ks) = posts.parens_reads e ks (expr_reads e) (subscripts_read ks)
  post_reads (after_form x s up is) = posts.after_reads x s up is
  post_reads (before_form s up is x) = posts.before_reads s up is x
  post_reads (int_form z) = posts.int_reads z
  post_reads (text_form t) = posts.text_reads t
  post_reads (template_form ps) = posts.template_reads ps
  post_reads (constant_form k e is) = posts.constant_reads k e is
  post_reads (isset_form e es) = rows.isset_form_reads e es (expr_reads e) (isset_reads es)
  post_reads (empty_form e) = rows.empty_form_reads e (expr_reads e)
  post_reads (array_form empty_items) = items.empty_array_reads
  post_reads (array_form (items_form i is)) = items.array_reads i is (item_reads i) (items_read is)
  post_reads (bracket_form empty_items) = items.empty_bracket_reads
  post_reads (bracket_form (items_form i is)) = items.bracket_reads i is (item_reads i) (items_read is)

  place_reads : (ks : SubscriptsForm) → PlaceReads ks
  place_reads no_subscript = posts.no_place_reads
  place_reads (subscript_form e ks) = posts.place_reads e ks (expr_reads e) (place_reads ks)

  subscripts_read : (ks : SubscriptsForm) → SubscriptsRead ks
  subscripts_read no_subscript = posts.no_subscript_reads
  subscripts_read (subscript_form e ks) = posts.subscript_reads e ks (expr_reads e) (subscripts_read ks)

  arguments_read : (es : MoreExprsForm) → ArgumentsRead es
  arguments_read no_more_exprs = rows.arguments_end
  arguments_read (one_more_expr e es) = rows.arguments_read e es (expr_reads e) (arguments_read es)

  isset_reads : (es : MoreExprsForm) → IssetReads es
  isset_reads no_more_exprs = rows.isset_ends
  isset_reads (one_more_expr e es) = rows.isset_reads e es (expr_reads e) (isset_reads es)

  item_reads : (i : ItemForm) → ItemReads i
  item_reads (value_item e) = items.value_item_reads e (expr_reads e)
  item_reads (keyed_item k e) = items.keyed_item_reads k e (expr_reads k) (expr_reads e)

  items_read : (is : MoreItemsForm) → MoreItemsRead is
  items_read end_of_items = items.items_end
  items_read last_comma = items.items_end_by_comma
  items_read (one_more_item i is) = items.items_read i is (item_reads i) (items_read is)
