-- What is collected in expressions and statements: of each expression what is its own, and then what is collected in its parts.
use Rattle.std.specs.Prelude.{ℕ, List, [], ◌∷◌, ◌++◌, Option, Some, None}
use Rattle.php_syntax.specs.Trees.{PlainExpr, null_expr, flag_expr, int_expr, text_expr, var_expr, super_expr, member_expr, array_expr, join_expr, neg_expr, not_expr, arith_expr, compare_expr, and_expr, or_expr, coalesce_expr, choice_expr, isset_expr, empty_expr, assign_expr, update_expr, step_expr, call_expr, MaybeExpr, no_expr, some_expr, PlainExprs, no_exprs, more_exprs, PlainItems, no_items, more_items, PlainPath, no_keys, more_keys, PlainStmt, inline_stmt, echo_stmt, run_stmt, if_stmt, while_stmt, do_while_stmt, for_stmt, each_stmt, break_stmt, continue_stmt, return_stmt, include_stmt, quit_stmt, PlainStmts, no_stmts, more_stmts, PlainArms, no_arms, more_arms, PlainParam, PlainFunction}

unfoldable mutual
  -- in an expression: its own, and then what is collected in its parts from the left
  pub collected : {A : Type 0} → (PlainExpr → List A) → PlainExpr → List A
  collected own null_expr = own null_expr
  collected own (flag_expr b) = own (flag_expr b)
  collected own (int_expr z) = own (int_expr z)
  collected own (text_expr t) = own (text_expr t)
  collected own (var_expr x) = own (var_expr x)
  collected own (super_expr name) = own (super_expr name)
  collected own (member_expr a k) = own (member_expr a k) ++ (collected own a ++ collected own k)
  collected own (array_expr items) = own (array_expr items) ++ item_collected own items
  collected own (join_expr parts) = own (join_expr parts) ++ part_collected own parts
  collected own (neg_expr a) = own (neg_expr a) ++ collected own a
  collected own (not_expr a) = own (not_expr a) ++ collected own a
  collected own (arith_expr sign a b) = own (arith_expr sign a b) ++ (collected own a ++ collected own b)
  collected own (compare_expr sign a b) = own (compare_expr sign a b) ++ (collected own a ++ collected own b)
  collected own (and_expr a b) = own (and_expr a b) ++ (collected own a ++ collected own b)
  collected own (or_expr a b) = own (or_expr a b) ++ (collected own a ++ collected own b)
  collected own (coalesce_expr a b) = own (coalesce_expr a b) ++ (collected own a ++ collected own b)
  collected own (choice_expr c m b) = own (choice_expr c m b) ++ (collected own c ++ (maybe_collected own m ++ collected own b))
  collected own (isset_expr parts) = own (isset_expr parts) ++ part_collected own parts
  collected own (empty_expr a) = own (empty_expr a) ++ collected own a
  collected own (assign_expr x path e) = own (assign_expr x path e) ++ (path_collected own path ++ collected own e)
  collected own (update_expr sign x path e) = own (update_expr sign x path e) ++ (path_collected own path ++ collected own e)
  collected own (step_expr x up before) = own (step_expr x up before)
  collected own (call_expr name args) = own (call_expr name args) ++ part_collected own args

  -- in an expression that may be left out
  pub maybe_collected : {A : Type 0} → (PlainExpr → List A) → MaybeExpr → List A
  maybe_collected own no_expr = []
  maybe_collected own (some_expr e) = collected own e

  -- in expressions, from the left
  pub part_collected : {A : Type 0} → (PlainExpr → List A) → PlainExprs → List A
  part_collected own no_exprs = []
  part_collected own (more_exprs e es) = collected own e ++ part_collected own es

  -- in the items of an array literal, from the left, a key before its value
  pub item_collected : {A : Type 0} → (PlainExpr → List A) → PlainItems → List A
  item_collected own no_items = []
  item_collected own (more_items k e is) = maybe_collected own k ++ (collected own e ++ item_collected own is)

  -- in the keys of a target, from the left
  pub path_collected : {A : Type 0} → (PlainExpr → List A) → PlainPath → List A
  path_collected own no_keys = []
  path_collected own (more_keys k ks) = maybe_collected own k ++ path_collected own ks

-- of the variable for the keys of a `foreach`, if it has one
abbrev pub key_collected : {A : Type 0} → (PlainExpr → List A) → Option (List ℕ) → List A
key_collected own None = []
key_collected own (Some x) = own (var_expr x)

unfoldable mutual
  unfolding collected

  -- in a statement, in the order of its parts; what a `foreach` sets stands there as a variable
  pub collected_of : {A : Type 0} → (PlainExpr → List A) → PlainStmt → List A
  collected_of own (inline_stmt bytes) = []
  collected_of own (echo_stmt es) = part_collected own es
  collected_of own (run_stmt e) = collected own e
  collected_of own (if_stmt arms otherwise) = arms_collected own arms ++ stmts_collected own otherwise
  collected_of own (while_stmt e body) = collected own e ++ stmts_collected own body
  collected_of own (do_while_stmt body e) = stmts_collected own body ++ collected own e
  collected_of own (for_stmt begin e next body) =
      part_collected own begin ++ (maybe_collected own e ++ (part_collected own next ++ stmts_collected own body))
  collected_of own (each_stmt e key x body) = collected own e ++ (key_collected own key ++ (own (var_expr x) ++ stmts_collected own body))
  collected_of own break_stmt = []
  collected_of own continue_stmt = []
  collected_of own (return_stmt e) = maybe_collected own e
  collected_of own (include_stmt path) = []
  collected_of own (quit_stmt e) = maybe_collected own e

  -- in statements, in their order
  pub stmts_collected : {A : Type 0} → (PlainExpr → List A) → PlainStmts → List A
  stmts_collected own no_stmts = []
  stmts_collected own (more_stmts s ss) = collected_of own s ++ stmts_collected own ss

  -- in the arms of an `if`: in each in its condition and then in its body
  pub arms_collected : {A : Type 0} → (PlainExpr → List A) → PlainArms → List A
  arms_collected own no_arms = []
  arms_collected own (more_arms e body arms) = collected own e ++ (stmts_collected own body ++ arms_collected own arms)

-- in the bodies of functions, in their order
unfoldable pub bodies_collected : {A : Type 0} → (PlainExpr → List A) → List PlainFunction → List A
unfolding collected_of
bodies_collected own [] = []
bodies_collected own (f ∷ fs) = stmts_collected own f.body_of ++ bodies_collected own fs

-- in the defaults of parameters, in their order
unfoldable pub defaults_collected : {A : Type 0} → (PlainExpr → List A) → List PlainParam → List A
unfolding collected
defaults_collected own [] = []
defaults_collected own (p ∷ ps) = maybe_collected own p.default_of ++ defaults_collected own ps

-- in functions: in each in its defaults and then in its body
unfoldable pub functions_collected : {A : Type 0} → (PlainExpr → List A) → List PlainFunction → List A
unfolding defaults_collected collected_of
functions_collected own [] = []
functions_collected own (f ∷ fs) = defaults_collected own f.params_of ++ (stmts_collected own f.body_of ++ functions_collected own fs)

-- an expression alone, so that all expressions are collected
abbrev pub itself : PlainExpr → List PlainExpr
itself e = e ∷ []
