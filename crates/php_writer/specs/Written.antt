-- The marks that a tree is written with, before those behind it. Round brackets stand around an operand just where it is looser than its
-- place allows.
use Rattle.std.specs.Prelude.{ℕ, ◌+◌, ℤ, pos, negsuc, Bool, true, false, nat_lt, if◌then◌else◌, List, [], ◌∷◌, Option, Some, None}
use Rattle.php_syntax.specs.declared.token.Sign.{Sign}
use Rattle.php_syntax.specs.declared.token.Sign.TheVariants as signs
use Rattle.script_grammar.specs.declared.keyword.Keyword.{Keyword}
use Rattle.script_grammar.specs.declared.keyword.Keyword.TheVariants as word
use Rattle.php_syntax.specs.declared.tree.ArithSign.{ArithSign}
use Rattle.php_syntax.specs.declared.tree.ArithSign.TheVariants as arith
use Rattle.php_syntax.specs.declared.tree.CompareSign.{CompareSign}
use Rattle.php_syntax.specs.declared.tree.CompareSign.TheVariants as compare
use Rattle.php_syntax.specs.declared.tree.UpdateSign.{UpdateSign}
use Rattle.php_syntax.specs.declared.tree.UpdateSign.TheVariants as update
use Rattle.php_syntax.specs.Tokens.{PlainKey, text_key, int_key, var_key}
use Rattle.php_syntax.specs.Trees.{PlainExpr, null_expr, flag_expr, int_expr, text_expr, var_expr, super_expr, member_expr, array_expr, join_expr, neg_expr, not_expr, arith_expr, compare_expr, and_expr, or_expr, coalesce_expr, choice_expr, isset_expr, empty_expr, assign_expr, update_expr, step_expr, call_expr, MaybeExpr, no_expr, some_expr, PlainExprs, no_exprs, more_exprs, PlainItems, no_items, more_items, PlainPath, no_keys, more_keys, PlainStmt, inline_stmt, echo_stmt, run_stmt, if_stmt, while_stmt, do_while_stmt, for_stmt, each_stmt, break_stmt, continue_stmt, return_stmt, include_stmt, quit_stmt, PlainStmts, no_stmts, more_stmts, PlainArms, no_arms, more_arms, PlainParam, PlainFunction, PlainFile}
use Rattle.script_grammar.specs.declared.operator.Level.{Level}
use Rattle.script_grammar.specs.declared.operator.Level.TheVariants as level
use Rattle.script_grammar.specs.Operators.{level_rank}
use Rattle.script_grammar.specs.Reserved.{request_name}
use Rattle.spellable.specs.Marks.{Mark, keyword, name, variable, integer, text, read, sign, outside}

-- the sign of an operation
abbrev pub arith_sign : ArithSign → Sign
arith_sign arith.Add = signs.Plus
arith_sign arith.Sub = signs.Minus
arith_sign arith.Mul = signs.Star
arith_sign arith.Rem = signs.Percent

-- the sign of a comparison
abbrev pub compare_sign : CompareSign → Sign
compare_sign compare.Equal = signs.Equal
compare_sign compare.NotEqual = signs.NotEqual
compare_sign compare.Identical = signs.Identical
compare_sign compare.NotIdentical = signs.NotIdentical
compare_sign compare.Less = signs.Less
compare_sign compare.LessEqual = signs.LessEqual
compare_sign compare.Greater = signs.Greater
compare_sign compare.GreaterEqual = signs.GreaterEqual

-- the sign of an assignment that reads its target first
unfoldable pub sign_of_update : UpdateSign → Sign
sign_of_update update.Join = signs.JoinAssign
sign_of_update update.Add = signs.AddAssign
sign_of_update update.Sub = signs.SubAssign
sign_of_update update.Mul = signs.MulAssign
sign_of_update update.Rem = signs.RemAssign
sign_of_update update.Coalesce = signs.CoalesceAssign

-- the sign of a step up or down
abbrev pub sign_of_step : Bool → Sign
sign_of_step true = signs.Increment
sign_of_step false = signs.Decrement

-- the word of a truth value
abbrev pub flag_word : Bool → Keyword
flag_word true = word.True
flag_word false = word.False

-- a literal, or the constant of the least integer
unfoldable pub int_mark : ℤ → Mark
int_mark (pos n) = integer n
int_mark (negsuc n) = keyword word.PhpIntMin

-- the level of an operation, and how loose its place is: two more than the rank of its level, since what takes subscripts and other
-- operands stand below
abbrev pub level_looseness : Level → ℕ
level_looseness l = 2 + level_rank l

-- the level of an operation: that of sums for `+` and `-`, that of products for `*` and `%`
abbrev pub arith_level : ArithSign → Level
arith_level arith.Add = level.Sum
arith_level arith.Sub = level.Sum
arith_level arith.Mul = level.Product
arith_level arith.Rem = level.Product

-- how loose an operation is
abbrev pub arith_looseness : ArithSign → ℕ
arith_looseness s = level_looseness (arith_level s)

-- the same of a comparison
abbrev pub compare_level : CompareSign → Level
compare_level compare.Less = level.Order
compare_level compare.LessEqual = level.Order
compare_level compare.Greater = level.Order
compare_level compare.GreaterEqual = level.Order
compare_level _ = level.Equality

-- how loose a comparison is
abbrev pub compare_looseness : CompareSign → ℕ
compare_looseness s = level_looseness (compare_level s)

-- how loose the second operand of an operation may be, and either of a comparison
abbrev pub arith_side : ArithSign → ℕ
arith_side s = 1 + level_rank (arith_level s)

-- the same of a comparison
abbrev pub compare_side : CompareSign → ℕ
compare_side s = 1 + level_rank (compare_level s)

-- a chain of `.` or a template
abbrev pub join_looseness : PlainExprs → ℕ
join_looseness (more_exprs e (more_exprs f es)) = level_looseness level.Join
join_looseness _ = 1

-- How loose an expression is: what takes subscripts 0, then literals, texts and brackets 1, operators before an operand 2, the binary
-- levels
-- 3 to 9, `??` 10, `?:` 11 and assignments 12.
abbrev pub looseness : PlainExpr → ℕ
looseness (var_expr x) = 0
looseness (super_expr s) = 0
looseness (member_expr a k) = 0
looseness (call_expr f es) = 0
looseness (join_expr es) = join_looseness es
looseness (neg_expr a) = 2
looseness (not_expr a) = 2
looseness (arith_expr s a b) = arith_looseness s
looseness (compare_expr s a b) = compare_looseness s
looseness (and_expr a b) = level_looseness level.And
looseness (or_expr a b) = level_looseness level.Or
looseness (coalesce_expr a b) = 10
looseness (choice_expr a m b) = 11
looseness (assign_expr x ks e) = 12
looseness (update_expr s x ks e) = 12
looseness _ = 1

-- an operand so loose in a place that allows so much
abbrev pub within : ℕ → ℕ → (List Mark → List Mark) → List Mark → List Mark
within place own marks r = if nat_lt place own then sign signs.OpenParen ∷ marks (sign signs.CloseParen ∷ r) else marks r

-- what a template reads: the variable and the keys, before further keys
unfoldable pub read_name : PlainExpr → List ℕ
read_name (var_expr x) = x
read_name (super_expr s) = request_name s
read_name (member_expr a k) = read_name a
read_name _ = []

-- a key of a template
unfoldable pub part_key : PlainExpr → PlainKey
part_key (text_expr t) = text_key t
part_key (int_expr z) = int_key z
part_key (var_expr x) = var_key x
part_key (super_expr s) = var_key (request_name s)
part_key _ = text_key []

-- the keys by which a template reads, before further ones
unfoldable pub read_keys : PlainExpr → List PlainKey → List PlainKey
read_keys (member_expr a k) ks = read_keys a (part_key k ∷ ks)
read_keys _ ks = ks

-- expressions and lists of them
unfoldable mutual
  -- the marks of an expression
  pub expr_marks : PlainExpr → List Mark → List Mark
  expr_marks null_expr r = keyword word.Null ∷ r
  expr_marks (flag_expr b) r = keyword (flag_word b) ∷ r
  expr_marks (int_expr z) r = int_mark z ∷ r
  expr_marks (text_expr t) r = text t ∷ r
  expr_marks (var_expr x) r = variable x ∷ r
  expr_marks (super_expr s) r = variable (request_name s) ∷ r
  expr_marks (member_expr a k) r =
      within 0 (looseness a) (expr_marks a) (sign signs.OpenBracket ∷ expr_marks k (sign signs.CloseBracket ∷ r))
  expr_marks (array_expr is) r = sign signs.OpenBracket ∷ items_marks is (sign signs.CloseBracket ∷ r)
  expr_marks (join_expr es) r = join_marks es r
  expr_marks (neg_expr a) r = sign signs.Minus ∷ within 2 (looseness a) (expr_marks a) r
  expr_marks (not_expr a) r = sign signs.Not ∷ within 2 (looseness a) (expr_marks a) r
  expr_marks (arith_expr s a b) r =
      within (arith_looseness s) (looseness a) (expr_marks a) (sign (arith_sign s) ∷ within (arith_side s) (looseness b) (expr_marks b) r)
  expr_marks (compare_expr s a b) r =
      within (compare_side s) (looseness a) (expr_marks a) (sign (compare_sign s) ∷ within (compare_side s) (looseness b) (expr_marks b) r)
  expr_marks (and_expr a b) r = within 8 (looseness a) (expr_marks a) (sign signs.And ∷ within 7 (looseness b) (expr_marks b) r)
  expr_marks (or_expr a b) r = within 9 (looseness a) (expr_marks a) (sign signs.Or ∷ within 8 (looseness b) (expr_marks b) r)
  expr_marks (coalesce_expr a b) r = within 9 (looseness a) (expr_marks a) (sign signs.Coalesce ∷ within 10 (looseness b) (expr_marks b) r)
  expr_marks (choice_expr a m b) r =
      within 10 (looseness a) (expr_marks a)
      (sign signs.Question ∷ maybe_marks m (sign signs.Colon ∷ within 10 (looseness b) (expr_marks b) r))
  expr_marks (isset_expr es) r = keyword word.Isset ∷ sign signs.OpenParen ∷ list_marks es (sign signs.CloseParen ∷ r)
  expr_marks (empty_expr a) r = keyword word.Empty ∷ sign signs.OpenParen ∷ expr_marks a (sign signs.CloseParen ∷ r)
  expr_marks (assign_expr x ks e) r = variable x ∷ path_marks ks (sign signs.Assign ∷ expr_marks e r)
  expr_marks (update_expr s x ks e) r = variable x ∷ path_marks ks (sign (sign_of_update s) ∷ expr_marks e r)
  expr_marks (step_expr x up true) r = sign (sign_of_step up) ∷ variable x ∷ r
  expr_marks (step_expr x up false) r = variable x ∷ sign (sign_of_step up) ∷ r
  expr_marks (call_expr f es) r = name f ∷ sign signs.OpenParen ∷ list_marks es (sign signs.CloseParen ∷ r)

  -- the marks of an expression that may be left out
  pub maybe_marks : MaybeExpr → List Mark → List Mark
  maybe_marks no_expr r = r
  maybe_marks (some_expr e) r = expr_marks e r

  -- a chain of `.`, or a template that reads one part
  pub join_marks : PlainExprs → List Mark → List Mark
  join_marks no_exprs r = r
  join_marks (more_exprs e no_exprs) r = read (read_name e) (read_keys e []) ∷ r
  join_marks (more_exprs e (more_exprs f es)) r = within 4 (looseness e) (expr_marks e) (dotted_marks (more_exprs f es) r)

  -- each behind a `.`
  pub dotted_marks : PlainExprs → List Mark → List Mark
  dotted_marks no_exprs r = r
  dotted_marks (more_exprs e es) r = sign signs.Dot ∷ within 4 (looseness e) (expr_marks e) (dotted_marks es r)

  -- with commas between
  pub list_marks : PlainExprs → List Mark → List Mark
  list_marks no_exprs r = r
  list_marks (more_exprs e es) r = expr_marks e (more_marks es r)

  -- each behind a comma
  pub more_marks : PlainExprs → List Mark → List Mark
  more_marks no_exprs r = r
  more_marks (more_exprs e es) r = sign signs.Comma ∷ expr_marks e (more_marks es r)

  -- with commas between
  pub items_marks : PlainItems → List Mark → List Mark
  items_marks no_items r = r
  items_marks (more_items k e is) r = key_marks k (expr_marks e (more_items_marks is r))

  -- each behind a comma
  pub more_items_marks : PlainItems → List Mark → List Mark
  more_items_marks no_items r = r
  more_items_marks (more_items k e is) r = sign signs.Comma ∷ key_marks k (expr_marks e (more_items_marks is r))

  -- the key of an item, if it has one
  pub key_marks : MaybeExpr → List Mark → List Mark
  key_marks no_expr r = r
  key_marks (some_expr e) r = expr_marks e (sign signs.DoubleArrow ∷ r)

  -- the marks of the keys of a target, each in square brackets
  pub path_marks : PlainPath → List Mark → List Mark
  path_marks no_keys r = r
  path_marks (more_keys k ks) r = sign signs.OpenBracket ∷ maybe_marks k (sign signs.CloseBracket ∷ path_marks ks r)

-- an operand in a place that allows so much
unfoldable pub placed_marks : ℕ → PlainExpr → List Mark → List Mark
placed_marks place e r = within place (looseness e) (expr_marks e) r

-- operands in such places, each behind a sign
unfoldable pub behind_marks : PlainExprs → Sign → ℕ → List Mark → List Mark
behind_marks no_exprs s place r = r
behind_marks (more_exprs e es) s place r = sign s ∷ placed_marks place e (behind_marks es s place r)

-- operands in such places, with a sign between
unfoldable pub chain_marks : PlainExprs → Sign → ℕ → List Mark → List Mark
chain_marks no_exprs s place r = r
chain_marks (more_exprs e es) s place r = placed_marks place e (behind_marks es s place r)

-- an expression in round brackets
abbrev pub condition_marks : PlainExpr → List Mark → List Mark
condition_marks e r = sign signs.OpenParen ∷ expr_marks e (sign signs.CloseParen ∷ r)

-- the argument of `exit` in round brackets, if it has one
abbrev pub argument_marks : MaybeExpr → List Mark → List Mark
argument_marks no_expr r = r
argument_marks (some_expr e) r = condition_marks e r

-- the variables of a `foreach`
abbrev pub variables_marks : Option (List ℕ) → List ℕ → List Mark → List Mark
variables_marks None x r = variable x ∷ r
variables_marks (Some k) x r = variable k ∷ sign signs.DoubleArrow ∷ variable x ∷ r

-- statements, lists of them, and arms
unfoldable mutual
  -- the marks of a statement; a body stands in braces
  pub stmt_marks : PlainStmt → List Mark → List Mark
  stmt_marks (inline_stmt t) r = outside t ∷ r
  stmt_marks (echo_stmt es) r = keyword word.Echo ∷ list_marks es (sign signs.Semicolon ∷ r)
  stmt_marks (run_stmt e) r = expr_marks e (sign signs.Semicolon ∷ r)
  stmt_marks (if_stmt a ss) r = arms_marks a word.If (else_marks ss r)
  stmt_marks (while_stmt e ss) r =
      keyword word.While ∷ condition_marks e (sign signs.OpenBrace ∷ stmts_marks ss (sign signs.CloseBrace ∷ r))
  stmt_marks (do_while_stmt ss e) r =
      keyword word.Do ∷ sign signs.OpenBrace
      ∷ stmts_marks ss (sign signs.CloseBrace ∷ keyword word.While ∷ condition_marks e (sign signs.Semicolon ∷ r))
  stmt_marks (for_stmt begin e next ss) r =
      keyword word.For ∷ sign signs.OpenParen
      ∷ list_marks begin (sign signs.Semicolon ∷ maybe_marks e (sign signs.Semicolon
      ∷ list_marks next (sign signs.CloseParen ∷ sign signs.OpenBrace ∷ stmts_marks ss (sign signs.CloseBrace ∷ r))))
  stmt_marks (each_stmt e k x ss) r =
      keyword word.Foreach ∷ sign signs.OpenParen
      ∷ expr_marks e (keyword word.As ∷ variables_marks k x (sign signs.CloseParen ∷ sign signs.OpenBrace
      ∷ stmts_marks ss (sign signs.CloseBrace ∷ r)))
  stmt_marks break_stmt r = keyword word.Break ∷ sign signs.Semicolon ∷ r
  stmt_marks continue_stmt r = keyword word.Continue ∷ sign signs.Semicolon ∷ r
  stmt_marks (return_stmt e) r = keyword word.Return ∷ maybe_marks e (sign signs.Semicolon ∷ r)
  stmt_marks (include_stmt t) r = keyword word.Include ∷ text t ∷ sign signs.Semicolon ∷ r
  stmt_marks (quit_stmt e) r = keyword word.Exit ∷ argument_marks e (sign signs.Semicolon ∷ r)

  -- the marks of statements, in their order
  pub stmts_marks : PlainStmts → List Mark → List Mark
  stmts_marks no_stmts r = r
  stmts_marks (more_stmts s ss) r = stmt_marks s (stmts_marks ss r)

  -- the first with this word, and each further with `elseif`
  pub arms_marks : PlainArms → Keyword → List Mark → List Mark
  arms_marks no_arms k r = r
  arms_marks (more_arms e ss a) k r =
      keyword k ∷ condition_marks e (sign signs.OpenBrace ∷ stmts_marks ss (sign signs.CloseBrace ∷ arms_marks a word.ElseIf r))

  -- no `else` where it is empty
  pub else_marks : PlainStmts → List Mark → List Mark
  else_marks no_stmts r = r
  else_marks (more_stmts s ss) r = keyword word.Else ∷ sign signs.OpenBrace ∷ stmt_marks s (stmts_marks ss (sign signs.CloseBrace ∷ r))

-- a default behind a parameter
abbrev pub default_marks : MaybeExpr → List Mark → List Mark
default_marks no_expr r = r
default_marks (some_expr e) r = sign signs.Assign ∷ expr_marks e r

-- a parameter
abbrev pub param_marks : PlainParam → List Mark → List Mark
param_marks p r = variable p.name_of ∷ default_marks p.default_of r

-- each behind a comma
abbrev pub more_params_marks : List PlainParam → List Mark → List Mark
more_params_marks [] r = r
more_params_marks (p ∷ ps) r = sign signs.Comma ∷ param_marks p (more_params_marks ps r)

-- with commas between
abbrev pub params_marks : List PlainParam → List Mark → List Mark
params_marks [] r = r
params_marks (p ∷ ps) r = param_marks p (more_params_marks ps r)

-- a function
abbrev pub function_marks : PlainFunction → List Mark → List Mark
function_marks f r =
    keyword word.Function ∷ name f.name_of ∷ sign signs.OpenParen
    ∷ params_marks f.params_of (sign signs.CloseParen ∷ sign signs.OpenBrace ∷ stmts_marks f.body_of (sign signs.CloseBrace ∷ r))

-- functions
abbrev pub functions_marks : List PlainFunction → List Mark → List Mark
functions_marks [] r = r
functions_marks (f ∷ fs) r = function_marks f (functions_marks fs r)

-- the functions, and behind them the statements
abbrev pub file_marks : PlainFile → List Mark
file_marks t = functions_marks t.functions_of (stmts_marks t.body_of [])
