-- Expressions: the grammar in EBNF form as derivations, one level a precedence, with the terminals and the tree of each derivation.
-- The terminals of a form stand before a list of terminals that follow it.
use Rattle.std.specs.Prelude.{◌≡◌, ℕ, ℤ, pos, negsuc, Bool, true, false, List, [], ◌∷◌, Option, Some, None, codes}
use Rattle.std.specs.Str.{str_eq_ignore_ascii_case, str_to_ascii_lowercase}
use Rattle.php_syntax.specs.declared.token.Sign.{Sign}
use Rattle.php_syntax.specs.declared.token.Sign.TheVariants as sign
use Rattle.script_grammar.specs.declared.keyword.Keyword.{Keyword}
use Rattle.script_grammar.specs.declared.keyword.Keyword.TheVariants as word
use Rattle.php_syntax.specs.declared.tree.UpdateSign.{UpdateSign}
use Rattle.php_syntax.specs.declared.tree.SuperName.{SuperName}
use Rattle.script_grammar.specs.declared.operator.Level.{Level}
use Rattle.script_grammar.specs.declared.operator.Level.TheVariants as level
use Rattle.script_grammar.specs.declared.operator.Operator.{Operator}
use Rattle.script_grammar.specs.declared.operator.Operator.TheVariants as operator
use Rattle.script_grammar.specs.declared.operator.Prefix.{Prefix}
use Rattle.script_grammar.specs.declared.operator.Prefix.TheVariants as prefix
use Rattle.php_syntax.specs.Tokens.{PlainKey, text_key, int_key, var_key, PlainPart, plain_part, read_part}
use Rattle.php_syntax.specs.Trees.{PlainExpr, null_expr, flag_expr, int_expr, text_expr, var_expr, super_expr, member_expr, array_expr, join_expr, neg_expr, not_expr, arith_expr, compare_expr, and_expr, or_expr, coalesce_expr, choice_expr, isset_expr, empty_expr, assign_expr, update_expr, step_expr, call_expr, no_expr, some_expr, PlainExprs, no_exprs, more_exprs, PlainItems, no_items, more_items, PlainPath, no_keys, more_keys}
use Rattle.script_grammar.specs.Rules.{request_named}
use Rattle.script_grammar.specs.Operators.{tighter_level, repeats, binary_operator, prefix_operator, update_sign, step_sign}
use Rattle.script_grammar.specs.Terminals.{Terminal, variable_terminal, word_terminal, name_terminal, int_terminal, text_terminal, template_terminal, sign_terminal}

-- the value of a constant
abbrev pub constant_of : Keyword → Option PlainExpr
constant_of word.True = Some (flag_expr true)
constant_of word.False = Some (flag_expr false)
constant_of word.Null = Some null_expr
constant_of word.PhpEol = Some (text_expr (10 ∷ []))
constant_of word.PhpIntMax = Some (int_expr (pos 9223372036854775807))
constant_of word.PhpIntMin = Some (int_expr (negsuc 9223372036854775807))
constant_of _ = None

-- whether a name is that of `htmlspecialchars`, in any case
abbrev pub is_escape : List ℕ → Bool
is_escape f = str_eq_ignore_ascii_case f (codes "htmlspecialchars")

mutual
  -- e = target assignment e | choice
  pub data ExprForm : Type 0 where
    assign_form : TargetForm → ExprForm → ExprForm
    update_form : TargetForm → (s : Sign) (u : UpdateSign) → update_sign s ≡ Some u → ExprForm → ExprForm
    choice_form : ChoiceForm → ExprForm

  -- target = VAR { "[" [ e ] "]" }
  pub data TargetForm : Type 0 where
    target_form : List ℕ → KeysForm → TargetForm

  -- { "[" [ e ] "]" }
  pub data KeysForm : Type 0 where
    no_key_form : KeysForm
    open_key_form : KeysForm → KeysForm
    key_form : ExprForm → KeysForm → KeysForm

  -- choice = nul [ "?" [ e ] ":" nul ]
  pub data ChoiceForm : Type 0 where
    only_choice : NulForm → ChoiceForm
    short_choice : NulForm → NulForm → ChoiceForm
    full_choice : NulForm → ExprForm → NulForm → ChoiceForm

  -- nul = or [ "??" nul ]
  pub data NulForm : Type 0 where
    only_nul : ChainForm level.Or → NulForm
    coalesce_form : ChainForm level.Or → NulForm → NulForm

  -- The binary levels. A level's chain is an operand of the next tighter level, and then any number of times one of its signs and
  -- an operand; at the two levels of comparisons at most once. The operands of the tightest level are unary.
  pub data ChainForm : Level → Type 0 where
    chain_form : {l : Level} → OperandForm l → MoreForm l → ChainForm l

  -- what follows the first operand of a chain
  pub data MoreForm : Level → Type 0 where
    no_more : {l : Level} → MoreForm l
    once_more : {l : Level} (s : Sign) (o : Operator) → binary_operator s ≡ Some (l, o) → repeats l ≡ false → OperandForm l → MoreForm l
    one_more : {l : Level} (s : Sign) (o : Operator) → binary_operator s ≡ Some (l, o) → repeats l ≡ true → OperandForm l → MoreForm l
        → MoreForm l

  -- an operand of a level: a chain of the next tighter one, or a unary operand
  pub data OperandForm : Level → Type 0 where
    tighter_form : {l m : Level} → tighter_level l ≡ Some m → ChainForm m → OperandForm l
    tightest_form : {l : Level} → tighter_level l ≡ None → UnaryForm → OperandForm l

  -- unary = ( "!" | "-" | "(int)" | "(string)" ) unary | post
  pub data UnaryForm : Type 0 where
    prefix_form : (s : Sign) (p : Prefix) → prefix_operator s ≡ Some p → UnaryForm → UnaryForm
    post_form : PostForm → UnaryForm

  -- post = ( VAR | call | "(" e ")" ) { "[" e "]" } | VAR ( "++" | "--" ) | ( "++" | "--" ) VAR | INT | STR | TEMPLATE | constant
  --      | "isset" "(" e { "," e } ")" | "empty" "(" e ")" | "array" "(" items ")" | "[" items "]"
  pub data PostForm : Type 0 where
    base_form : BaseForm → SubscriptsForm → PostForm
    after_form : List ℕ → (s : Sign) (up : Bool) → step_sign s ≡ Some up → PostForm
    before_form : (s : Sign) (up : Bool) → step_sign s ≡ Some up → List ℕ → PostForm
    int_form : ℤ → PostForm
    text_form : List ℕ → PostForm
    template_form : List PlainPart → PostForm
    constant_form : (k : Keyword) (e : PlainExpr) → constant_of k ≡ Some e → PostForm
    isset_form : ExprForm → MoreExprsForm → PostForm
    empty_form : ExprForm → PostForm
    array_form : ItemsForm → PostForm
    bracket_form : ItemsForm → PostForm

  -- call = NAME "(" list ")", where that of `htmlspecialchars` may have two more arguments that say what is so anyway
  pub data BaseForm : Type 0 where
    variable_base : List ℕ → BaseForm
    call_base : List ℕ → ListForm → BaseForm
    escape_base : (f : List ℕ) → is_escape f ≡ true → ExprForm → QuotesForm → BaseForm
    parens_base : ExprForm → BaseForm

  -- ENT_QUOTES [ "," STR ], where the text is UTF-8 in any case
  pub data QuotesForm : Type 0 where
    only_quotes : QuotesForm
    quotes_and_charset : (t : List ℕ) → str_eq_ignore_ascii_case t (codes "UTF-8") ≡ true → QuotesForm

  -- { "[" e "]" }
  pub data SubscriptsForm : Type 0 where
    no_subscript : SubscriptsForm
    subscript_form : ExprForm → SubscriptsForm → SubscriptsForm

  -- list = [ e { "," e } ]
  pub data ListForm : Type 0 where
    empty_list : ListForm
    list_form : ExprForm → MoreExprsForm → ListForm

  -- { "," e }
  pub data MoreExprsForm : Type 0 where
    no_more_exprs : MoreExprsForm
    one_more_expr : ExprForm → MoreExprsForm → MoreExprsForm

  -- items = [ item { "," item } [ "," ] ]
  pub data ItemsForm : Type 0 where
    empty_items : ItemsForm
    items_form : ItemForm → MoreItemsForm → ItemsForm

  -- { "," item } [ "," ]
  pub data MoreItemsForm : Type 0 where
    end_of_items : MoreItemsForm
    last_comma : MoreItemsForm
    one_more_item : ItemForm → MoreItemsForm → MoreItemsForm

  -- item = e [ "=>" e ]
  pub data ItemForm : Type 0 where
    value_item : ExprForm → ItemForm
    keyed_item : ExprForm → ExprForm → ItemForm

-- the terminals of the arguments of `htmlspecialchars` behind its text, before those that follow them
abbrev pub quotes_terminals : QuotesForm → List Terminal → List Terminal
quotes_terminals only_quotes r = name_terminal (codes "ENT_QUOTES") ∷ r
quotes_terminals (quotes_and_charset t is) r = name_terminal (codes "ENT_QUOTES") ∷ sign_terminal sign.Comma ∷ text_terminal t ∷ r

-- the terminals of a form, before those that follow it
unfoldable mutual
  -- the terminals of an expression
  pub expr_terminals : ExprForm → List Terminal → List Terminal
  expr_terminals (assign_form t e) r = target_terminals t (sign_terminal sign.Assign ∷ expr_terminals e r)
  expr_terminals (update_form t s u is e) r = target_terminals t (sign_terminal s ∷ expr_terminals e r)
  expr_terminals (choice_form c) r = choice_terminals c r

  -- the terminals of a target
  pub target_terminals : TargetForm → List Terminal → List Terminal
  target_terminals (target_form x ks) r = variable_terminal x ∷ keys_terminals ks r

  -- the terminals of the keys of a target
  pub keys_terminals : KeysForm → List Terminal → List Terminal
  keys_terminals no_key_form r = r
  keys_terminals (open_key_form ks) r = sign_terminal sign.OpenBracket ∷ sign_terminal sign.CloseBracket ∷ keys_terminals ks r
  keys_terminals (key_form e ks) r =
      sign_terminal sign.OpenBracket ∷ expr_terminals e (sign_terminal sign.CloseBracket ∷ keys_terminals ks r)

  -- the terminals of a choice by `?:`
  pub choice_terminals : ChoiceForm → List Terminal → List Terminal
  choice_terminals (only_choice a) r = nul_terminals a r
  choice_terminals (short_choice a b) r = nul_terminals a (sign_terminal sign.Question ∷ sign_terminal sign.Colon ∷ nul_terminals b r)
  choice_terminals (full_choice a e b) r =
      nul_terminals a (sign_terminal sign.Question ∷ expr_terminals e (sign_terminal sign.Colon ∷ nul_terminals b r))

  -- the terminals of a chain of `??`
  pub nul_terminals : NulForm → List Terminal → List Terminal
  nul_terminals (only_nul c) r = chain_terminals c r
  nul_terminals (coalesce_form c n) r = chain_terminals c (sign_terminal sign.Coalesce ∷ nul_terminals n r)

  -- the terminals of a chain of a binary level
  pub chain_terminals : {l : Level} → ChainForm l → List Terminal → List Terminal
  chain_terminals (chain_form a m) r = operand_terminals a (more_terminals m r)

  -- the terminals of what follows the first operand of a chain
  pub more_terminals : {l : Level} → MoreForm l → List Terminal → List Terminal
  more_terminals no_more r = r
  more_terminals (once_more s o is last a) r = sign_terminal s ∷ operand_terminals a r
  more_terminals (one_more s o is on a m) r = sign_terminal s ∷ operand_terminals a (more_terminals m r)

  -- the terminals of an operand of a level
  pub operand_terminals : {l : Level} → OperandForm l → List Terminal → List Terminal
  operand_terminals (tighter_form is c) r = chain_terminals c r
  operand_terminals (tightest_form is u) r = unary_terminals u r

  -- the terminals of a unary operand
  pub unary_terminals : UnaryForm → List Terminal → List Terminal
  unary_terminals (prefix_form s p is u) r = sign_terminal s ∷ unary_terminals u r
  unary_terminals (post_form p) r = post_terminals p r

  -- the terminals of what no binary or prefix operator joins
  pub post_terminals : PostForm → List Terminal → List Terminal
  post_terminals (base_form b ks) r = base_terminals b (subscripts_terminals ks r)
  post_terminals (after_form x s up is) r = variable_terminal x ∷ sign_terminal s ∷ r
  post_terminals (before_form s up is x) r = sign_terminal s ∷ variable_terminal x ∷ r
  post_terminals (int_form z) r = int_terminal z ∷ r
  post_terminals (text_form t) r = text_terminal t ∷ r
  post_terminals (template_form ps) r = template_terminal ps ∷ r
  post_terminals (constant_form k e is) r = word_terminal k ∷ r
  post_terminals (isset_form e es) r =
      word_terminal word.Isset ∷ sign_terminal sign.OpenParen
      ∷ expr_terminals e (more_exprs_terminals es (sign_terminal sign.CloseParen ∷ r))
  post_terminals (empty_form e) r =
      word_terminal word.Empty ∷ sign_terminal sign.OpenParen ∷ expr_terminals e (sign_terminal sign.CloseParen ∷ r)
  post_terminals (array_form is) r =
      word_terminal word.Array ∷ sign_terminal sign.OpenParen ∷ items_terminals is (sign_terminal sign.CloseParen ∷ r)
  post_terminals (bracket_form is) r = sign_terminal sign.OpenBracket ∷ items_terminals is (sign_terminal sign.CloseBracket ∷ r)

  -- the terminals of what subscripts may follow
  pub base_terminals : BaseForm → List Terminal → List Terminal
  base_terminals (variable_base x) r = variable_terminal x ∷ r
  base_terminals (call_base f es) r = name_terminal f ∷ sign_terminal sign.OpenParen ∷ list_terminals es (sign_terminal sign.CloseParen ∷ r)
  base_terminals (escape_base f is e q) r =
      name_terminal f ∷ sign_terminal sign.OpenParen
      ∷ expr_terminals e (sign_terminal sign.Comma ∷ quotes_terminals q (sign_terminal sign.CloseParen ∷ r))
  base_terminals (parens_base e) r = sign_terminal sign.OpenParen ∷ expr_terminals e (sign_terminal sign.CloseParen ∷ r)

  -- the terminals of subscripts
  pub subscripts_terminals : SubscriptsForm → List Terminal → List Terminal
  subscripts_terminals no_subscript r = r
  subscripts_terminals (subscript_form e ks) r =
      sign_terminal sign.OpenBracket ∷ expr_terminals e (sign_terminal sign.CloseBracket ∷ subscripts_terminals ks r)

  -- the terminals of a list of expressions
  pub list_terminals : ListForm → List Terminal → List Terminal
  list_terminals empty_list r = r
  list_terminals (list_form e es) r = expr_terminals e (more_exprs_terminals es r)

  -- the terminals of further expressions, each behind a comma
  pub more_exprs_terminals : MoreExprsForm → List Terminal → List Terminal
  more_exprs_terminals no_more_exprs r = r
  more_exprs_terminals (one_more_expr e es) r = sign_terminal sign.Comma ∷ expr_terminals e (more_exprs_terminals es r)

  -- the terminals of the items of an array
  pub items_terminals : ItemsForm → List Terminal → List Terminal
  items_terminals empty_items r = r
  items_terminals (items_form i is) r = item_terminals i (more_items_terminals is r)

  -- the terminals of further items, each behind a comma, and of a comma at the end
  pub more_items_terminals : MoreItemsForm → List Terminal → List Terminal
  more_items_terminals end_of_items r = r
  more_items_terminals last_comma r = sign_terminal sign.Comma ∷ r
  more_items_terminals (one_more_item i is) r = sign_terminal sign.Comma ∷ item_terminals i (more_items_terminals is r)

  -- the terminals of an item: its key, if it has one, and its value
  pub item_terminals : ItemForm → List Terminal → List Terminal
  item_terminals (value_item e) r = expr_terminals e r
  item_terminals (keyed_item k e) r = expr_terminals k (sign_terminal sign.DoubleArrow ∷ expr_terminals e r)

-- a variable by its name: the five of the request are their own
abbrev pub request_or : Option SuperName → List ℕ → PlainExpr
request_or None x = var_expr x
request_or (Some s) x = super_expr s

-- a read of the variable of this name: one of the request's five, or one of the script
abbrev pub variable_tree : List ℕ → PlainExpr
variable_tree x = request_or (request_named x) x

-- the parts of a template: texts and members of variables
abbrev pub key_tree : PlainKey → PlainExpr
key_tree (text_key t) = text_expr t
key_tree (int_key z) = int_expr z
key_tree (var_key x) = variable_tree x

-- the member at the first key, of that the one at the second, and so on
abbrev pub read_tree : PlainExpr → List PlainKey → PlainExpr
read_tree e [] = e
read_tree e (k ∷ ks) = read_tree (member_expr e (key_tree k)) ks

-- a part of a template: its text, or the variable with its keys
abbrev pub part_tree : PlainPart → PlainExpr
part_tree (plain_part t) = text_expr t
part_tree (read_part x ks) = read_tree (variable_tree x) ks

-- the parts of a template in their order
abbrev pub part_trees : List PlainPart → PlainExprs
part_trees [] = no_exprs
part_trees (p ∷ ps) = more_exprs (part_tree p) (part_trees ps)

-- an operator before an operand; a cast is a call
abbrev pub prefix_tree : Prefix → PlainExpr → PlainExpr
prefix_tree prefix.Not e = not_expr e
prefix_tree prefix.Neg e = neg_expr e
prefix_tree prefix.CastInt e = call_expr (codes "intval") (more_exprs e no_exprs)
prefix_tree prefix.CastString e = call_expr (codes "strval") (more_exprs e no_exprs)

-- An operator between two operands. Chains of `.` are flat, and so are not made by it but for a chain of two.
abbrev pub operator_tree : Operator → PlainExpr → PlainExpr → PlainExpr
operator_tree operator.Or a b = or_expr a b
operator_tree operator.And a b = and_expr a b
operator_tree (operator.Compare s) a b = compare_expr s a b
operator_tree operator.Join a b = join_expr (more_exprs a (more_exprs b no_exprs))
operator_tree (operator.Arith s) a b = arith_expr s a b

-- an operand, and then operators with the operand behind each, in one chain
pub data Links : Type 0 where
  no_links : Links
  more_links : Operator → PlainExpr → Links → Links

-- the operands behind the operators of a chain, in their order
abbrev pub link_operands : Links → PlainExprs
link_operands no_links = no_exprs
link_operands (more_links o b ls) = more_exprs b (link_operands ls)

-- leaning left
abbrev pub lean_left : PlainExpr → Links → PlainExpr
lean_left a no_links = a
lean_left a (more_links o b ls) = lean_left (operator_tree o a b) ls

-- a chain of `.` is one flat join
abbrev pub flat_join : PlainExpr → Links → PlainExpr
flat_join a no_links = a
flat_join a (more_links o b ls) = join_expr (more_exprs a (more_exprs b (link_operands ls)))

-- the tree of a chain of one level: at that of `.` one flat join, and at the others leaning left
abbrev pub chain_tree_of : Level → PlainExpr → Links → PlainExpr
chain_tree_of level.Join a ls = flat_join a ls
chain_tree_of _ a ls = lean_left a ls

-- the tree of a form
unfoldable mutual
  -- the tree of an expression
  pub expr_tree : ExprForm → PlainExpr
  expr_tree (assign_form t e) = assign_expr (target_form_name t) (target_form_path t) (expr_tree e)
  expr_tree (update_form t s u is e) = update_expr u (target_form_name t) (target_form_path t) (expr_tree e)
  expr_tree (choice_form c) = choice_tree c

  -- the variable of a target
  pub target_form_name : TargetForm → List ℕ
  target_form_name (target_form x ks) = x

  -- the keys of a target
  pub target_form_path : TargetForm → PlainPath
  target_form_path (target_form x ks) = keys_tree ks

  -- the path of keys in their order, the outermost first
  pub keys_tree : KeysForm → PlainPath
  keys_tree no_key_form = no_keys
  keys_tree (open_key_form ks) = more_keys no_expr (keys_tree ks)
  keys_tree (key_form e ks) = more_keys (some_expr (expr_tree e)) (keys_tree ks)

  -- the tree of a choice by `?:`
  pub choice_tree : ChoiceForm → PlainExpr
  choice_tree (only_choice a) = nul_tree a
  choice_tree (short_choice a b) = choice_expr (nul_tree a) no_expr (nul_tree b)
  choice_tree (full_choice a e b) = choice_expr (nul_tree a) (some_expr (expr_tree e)) (nul_tree b)

  -- the tree of a chain of `??`, which leans right
  pub nul_tree : NulForm → PlainExpr
  nul_tree (only_nul c) = chain_tree c
  nul_tree (coalesce_form c n) = coalesce_expr (chain_tree c) (nul_tree n)

  -- the tree of a chain of a binary level
  pub chain_tree : {l : Level} → ChainForm l → PlainExpr
  chain_tree (chain_form {l = l} a m) = chain_tree_of l (operand_tree a) (more_tree m)

  -- what follows the first operand of a chain, as operators with their operands
  pub more_tree : {l : Level} → MoreForm l → Links
  more_tree no_more = no_links
  more_tree (once_more s o is last a) = more_links o (operand_tree a) no_links
  more_tree (one_more s o is on a m) = more_links o (operand_tree a) (more_tree m)

  -- the tree of an operand of a level
  pub operand_tree : {l : Level} → OperandForm l → PlainExpr
  operand_tree (tighter_form is c) = chain_tree c
  operand_tree (tightest_form is u) = unary_tree u

  -- the tree of a unary operand
  pub unary_tree : UnaryForm → PlainExpr
  unary_tree (prefix_form s p is u) = prefix_tree p (unary_tree u)
  unary_tree (post_form p) = post_tree p

  -- the tree of what no binary or prefix operator joins
  pub post_tree : PostForm → PlainExpr
  post_tree (base_form b ks) = subscripts_tree ks (base_tree b)
  post_tree (after_form x s up is) = step_expr x up false
  post_tree (before_form s up is x) = step_expr x up true
  post_tree (int_form z) = int_expr z
  post_tree (text_form t) = text_expr t
  post_tree (template_form ps) = join_expr (part_trees ps)
  post_tree (constant_form k e is) = e
  post_tree (isset_form e es) = isset_expr (more_exprs (expr_tree e) (more_exprs_tree es))
  post_tree (empty_form e) = empty_expr (expr_tree e)
  post_tree (array_form is) = array_expr (items_tree is)
  post_tree (bracket_form is) = array_expr (items_tree is)

  -- the tree of what subscripts may follow; names of functions are kept in lower case
  pub base_tree : BaseForm → PlainExpr
  base_tree (variable_base x) = variable_tree x
  base_tree (call_base f es) = call_expr (str_to_ascii_lowercase f) (list_tree es)
  base_tree (escape_base f is e q) = call_expr (str_to_ascii_lowercase f) (more_exprs (expr_tree e) no_exprs)
  base_tree (parens_base e) = expr_tree e

  -- with what stands before the subscripts
  pub subscripts_tree : SubscriptsForm → PlainExpr → PlainExpr
  subscripts_tree no_subscript a = a
  subscripts_tree (subscript_form e ks) a = subscripts_tree ks (member_expr a (expr_tree e))

  -- the trees of a list of expressions
  pub list_tree : ListForm → PlainExprs
  list_tree empty_list = no_exprs
  list_tree (list_form e es) = more_exprs (expr_tree e) (more_exprs_tree es)

  -- the trees of further expressions
  pub more_exprs_tree : MoreExprsForm → PlainExprs
  more_exprs_tree no_more_exprs = no_exprs
  more_exprs_tree (one_more_expr e es) = more_exprs (expr_tree e) (more_exprs_tree es)

  -- the items of an array in their order
  pub items_tree : ItemsForm → PlainItems
  items_tree empty_items = no_items
  items_tree (items_form (value_item e) is) = more_items no_expr (expr_tree e) (more_items_tree is)
  items_tree (items_form (keyed_item k e) is) = more_items (some_expr (expr_tree k)) (expr_tree e) (more_items_tree is)

  -- further items in their order; a comma at the end is none
  pub more_items_tree : MoreItemsForm → PlainItems
  more_items_tree end_of_items = no_items
  more_items_tree last_comma = no_items
  more_items_tree (one_more_item (value_item e) is) = more_items no_expr (expr_tree e) (more_items_tree is)
  more_items_tree (one_more_item (keyed_item k e) is) = more_items (some_expr (expr_tree k)) (expr_tree e) (more_items_tree is)
