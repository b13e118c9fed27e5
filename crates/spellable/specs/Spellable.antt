-- Which trees some file spells, beside the rules that every tree keeps: what the lexical grammar and the grammar allow.
use Rattle.std.specs.Prelude.{ℕ, ℤ, pos, negsuc, Bool, true, false, not, ◌==◌, ◌&&◌, nat_le, List, [], ◌∷◌, ◌++◌, length, Option, Some, None, codes, is_some}
use Rattle.std.specs.List.{list_all}
use Rattle.std.specs.Str.{str_to_ascii_lowercase}
use Rattle.lexical_grammar.specs.Characters.{is_name_start, is_name_byte, before, largest}
use Rattle.lexical_grammar.specs.Cuts.{is_opener}
use Rattle.script_grammar.specs.Terminals.{same_bytes, keyword_of}
use Rattle.script_grammar.specs.Rules.{is_request}
use Rattle.script_grammar.specs.Statements.{is_status}
use Rattle.php_syntax.specs.Trees.{PlainExpr, null_expr, flag_expr, int_expr, text_expr, var_expr, super_expr, member_expr, array_expr, join_expr, neg_expr, not_expr, arith_expr, compare_expr, and_expr, or_expr, coalesce_expr, choice_expr, isset_expr, empty_expr, assign_expr, update_expr, step_expr, call_expr, MaybeExpr, no_expr, some_expr, PlainExprs, no_exprs, more_exprs, PlainItems, no_items, more_items, PlainPath, no_keys, more_keys, PlainStmt, inline_stmt, echo_stmt, run_stmt, if_stmt, while_stmt, do_while_stmt, for_stmt, each_stmt, break_stmt, continue_stmt, return_stmt, include_stmt, quit_stmt, PlainStmts, no_stmts, more_stmts, PlainArms, no_arms, more_arms, PlainParam, PlainFunction, PlainFile}

-- a name: a letter or an underscore, and then letters, digits and underscores
abbrev pub is_name : List ℕ → Bool
is_name [] = false
is_name (b ∷ more) = is_name_start b && list_all is_name_byte more

-- the name of a function: in lower case, and no keyword
abbrev pub is_call_name : List ℕ → Bool
is_call_name f = is_name f && (same_bytes (str_to_ascii_lowercase f) f && not (is_some (keyword_of f)))

-- the name of a variable that is none of the request
abbrev pub is_own_name : List ℕ → Bool
is_own_name x = is_name x && not (is_request x)

-- an integer that is written as a literal, or the least one, which has a constant
abbrev pub is_integer : ℤ → Bool
is_integer (pos n) = nat_le n largest
is_integer (negsuc n) = n == largest

-- an integer that is written as a literal
abbrev pub is_unsigned : ℤ → Bool
is_unsigned (pos n) = nat_le n largest
is_unsigned (negsuc n) = false

-- what a template has as a key: a text, an integer or a variable
abbrev pub is_part_key : PlainExpr → Bool
is_part_key (text_expr t) = true
is_part_key (int_expr z) = is_unsigned z
is_part_key (var_expr x) = is_own_name x
is_part_key (super_expr s) = true
is_part_key _ = false

-- what a template reads: a variable, or a member of it by such keys
abbrev pub is_read : PlainExpr → Bool
is_read (var_expr x) = is_own_name x
is_read (super_expr s) = true
is_read (member_expr a k) = is_read a && is_part_key k
is_read _ = false

-- one operand or more
abbrev pub is_some_exprs : PlainExprs → Bool
is_some_exprs no_exprs = false
is_some_exprs (more_exprs e es) = true

-- the parts of a join: two or more, or one that a template reads
abbrev pub are_parts : PlainExprs → Bool
are_parts no_exprs = false
are_parts (more_exprs e no_exprs) = is_read e
are_parts (more_exprs e (more_exprs f es)) = true

-- expressions and lists of them
unfoldable mutual
  -- whether an expression can be written: its names are names, its integers in range, and rows that may not be empty are not
  pub expr_spellable : PlainExpr → Bool
  expr_spellable null_expr = true
  expr_spellable (flag_expr b) = true
  expr_spellable (int_expr z) = is_integer z
  expr_spellable (text_expr t) = true
  expr_spellable (var_expr x) = is_own_name x
  expr_spellable (super_expr s) = true
  expr_spellable (member_expr a b) = expr_spellable a && expr_spellable b
  expr_spellable (array_expr is) = items_spellable is
  expr_spellable (join_expr es) = are_parts es && exprs_spellable es
  expr_spellable (neg_expr a) = expr_spellable a
  expr_spellable (not_expr a) = expr_spellable a
  expr_spellable (arith_expr s a b) = expr_spellable a && expr_spellable b
  expr_spellable (compare_expr s a b) = expr_spellable a && expr_spellable b
  expr_spellable (and_expr a b) = expr_spellable a && expr_spellable b
  expr_spellable (or_expr a b) = expr_spellable a && expr_spellable b
  expr_spellable (coalesce_expr a b) = expr_spellable a && expr_spellable b
  expr_spellable (choice_expr a m b) = expr_spellable a && (maybe_spellable m && expr_spellable b)
  expr_spellable (isset_expr es) = is_some_exprs es && exprs_spellable es
  expr_spellable (empty_expr a) = expr_spellable a
  expr_spellable (assign_expr x ks e) = is_name x && (path_spellable ks && expr_spellable e)
  expr_spellable (update_expr s x ks e) = is_name x && (path_spellable ks && expr_spellable e)
  expr_spellable (step_expr x up before) = is_name x
  expr_spellable (call_expr f es) = is_call_name f && exprs_spellable es

  -- whether an expression can be written, if there is one
  pub maybe_spellable : MaybeExpr → Bool
  maybe_spellable no_expr = true
  maybe_spellable (some_expr e) = expr_spellable e

  -- whether each of the expressions can be written
  pub exprs_spellable : PlainExprs → Bool
  exprs_spellable no_exprs = true
  exprs_spellable (more_exprs e es) = expr_spellable e && exprs_spellable es

  -- whether each key and each value of the items can be written
  pub items_spellable : PlainItems → Bool
  items_spellable no_items = true
  items_spellable (more_items k e is) = maybe_spellable k && (expr_spellable e && items_spellable is)

  -- whether each key of a target can be written
  pub path_spellable : PlainPath → Bool
  path_spellable no_keys = true
  path_spellable (more_keys k ks) = maybe_spellable k && path_spellable ks

-- Bytes outside PHP: at least one, and no place of them is an opener where `<?php` and a space follow. Every other opener begins alike.
abbrev pub is_inline : List ℕ → Bool
is_inline [] = false
is_inline (b ∷ t) = before is_opener ((b ∷ t) ++ codes "<?php ") == length (b ∷ t)

-- a variable that may be left out
abbrev pub is_maybe_name : Option (List ℕ) → Bool
is_maybe_name None = true
is_maybe_name (Some x) = is_name x

-- one arm or more
abbrev pub is_some_arms : PlainArms → Bool
is_some_arms no_arms = false
is_some_arms (more_arms e ss a) = true

-- what `exit` prints: no status, since it prints none
abbrev pub is_printed : MaybeExpr → Bool
is_printed no_expr = true
is_printed (some_expr e) = not (is_status e)

-- statements, lists of them, and arms
unfoldable mutual
  -- whether a statement can be written
  pub stmt_spellable : PlainStmt → Bool
  stmt_spellable (inline_stmt t) = is_inline t
  stmt_spellable (echo_stmt es) = is_some_exprs es && exprs_spellable es
  stmt_spellable (run_stmt e) = expr_spellable e
  stmt_spellable (if_stmt a ss) = is_some_arms a && (arms_spellable a && stmts_spellable ss)
  stmt_spellable (while_stmt e ss) = expr_spellable e && stmts_spellable ss
  stmt_spellable (do_while_stmt ss e) = stmts_spellable ss && expr_spellable e
  stmt_spellable (for_stmt begin e next ss) = exprs_spellable begin && (maybe_spellable e && (exprs_spellable next && stmts_spellable ss))
  stmt_spellable (each_stmt e k x ss) = expr_spellable e && (is_maybe_name k && (is_name x && stmts_spellable ss))
  stmt_spellable break_stmt = true
  stmt_spellable continue_stmt = true
  stmt_spellable (return_stmt e) = maybe_spellable e
  stmt_spellable (include_stmt t) = true
  stmt_spellable (quit_stmt e) = is_printed e && maybe_spellable e

  -- whether each of the statements can be written
  pub stmts_spellable : PlainStmts → Bool
  stmts_spellable no_stmts = true
  stmts_spellable (more_stmts s ss) = stmt_spellable s && stmts_spellable ss

  -- whether each condition and each statement in the arms of an `if` can be written
  pub arms_spellable : PlainArms → Bool
  arms_spellable no_arms = true
  arms_spellable (more_arms e ss a) = expr_spellable e && (stmts_spellable ss && arms_spellable a)

-- an integer literal, or one with a sign before it
abbrev pub is_unsigned_literal : PlainExpr → Bool
is_unsigned_literal (int_expr z) = is_unsigned z
is_unsigned_literal _ = false

-- a literal, as the default of a parameter has to be
abbrev pub is_literal : PlainExpr → Bool
is_literal null_expr = true
is_literal (flag_expr b) = true
is_literal (int_expr z) = is_unsigned z
is_literal (text_expr t) = true
is_literal (neg_expr a) = is_unsigned_literal a
is_literal _ = false

-- a default, if there is one
abbrev pub is_default : MaybeExpr → Bool
is_default no_expr = true
is_default (some_expr e) = is_literal e

-- parameters
abbrev pub params_spellable : List PlainParam → Bool
params_spellable [] = true
params_spellable (p ∷ ps) = is_name p.name_of && (is_default p.default_of && params_spellable ps)

-- functions
abbrev pub functions_spellable : List PlainFunction → Bool
functions_spellable [] = true
functions_spellable (f ∷ fs) =
    is_call_name f.name_of && (params_spellable f.params_of && (stmts_spellable f.body_of && functions_spellable fs))

-- a tree of a file that some file spells
abbrev pub is_spellable : PlainFile → Bool
is_spellable t = stmts_spellable t.body_of && functions_spellable t.functions_of
