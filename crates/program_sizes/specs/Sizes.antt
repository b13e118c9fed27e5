-- The sizes of what statements stand for, part by part. No public clause cites this.
use Rattle.std.specs.Prelude.{ℕ, ◌+◌, ◌-◌, ◌^◌, max, min, List, [], ◌∷◌, Option, Some, None, slice_get}
use Rattle.php_syntax.specs.Trees.{PlainExpr, MaybeExpr, PlainExprs, PlainItems, PlainPath, PlainStmt, inline_stmt, echo_stmt, run_stmt, if_stmt, while_stmt, do_while_stmt, for_stmt, each_stmt, break_stmt, continue_stmt, return_stmt, include_stmt, quit_stmt, PlainStmts, no_stmts, more_stmts, PlainArms, no_arms, more_arms, PlainParam, PlainFunction}
use Rattle.php_syntax.specs.Height.{nodes, maybe_nodes, exprs_nodes, items_nodes, path_nodes, height, maybe_height, exprs_height, items_height, path_height}
use Rattle.program_rules.specs.Programs.{ReadFile}
use Rattle.program_files.specs.Order.{place_of}
use Rattle.program_sizes.specs.declared.size.Size.{Size}

-- a size with no place of an include, so many nodes and this height
abbrev pub of : ℕ → ℕ → Size
of nodes height = record { places = 0; nodes = nodes; height = height }

-- the size of nothing
abbrev pub none : Size
none = of 0 0

-- of two that stand side by side
abbrev pub beside : Size → Size → Size
beside a b = record { places = a.places + b.places; nodes = a.nodes + b.nodes; height = max a.height b.height }

-- of a node over what stands in it
abbrev pub above : Size → Size
above a = record { places = a.places; nodes = 1 + a.nodes; height = 1 + a.height }

-- of what stands for an include, where the statements of its file have this size
abbrev pub included : Size → Size
included a = record { places = 1 + a.places; nodes = a.nodes; height = a.height }

-- the same with the largest 64-bit number in place of a larger one
unfoldable pub capped : Size → Size
capped a = record { places = min a.places (2 ^ 64 - 1); nodes = min a.nodes (2 ^ 64 - 1); height = min a.height (2 ^ 64 - 1) }

-- the size of an expression
abbrev pub of_expr : PlainExpr → Size
of_expr e = of (nodes e) (height e)

-- the size of an expression that may be left out
abbrev pub of_maybe : MaybeExpr → Size
of_maybe e = of (maybe_nodes e) (maybe_height e)

-- the size of expressions in a row
abbrev pub of_exprs : PlainExprs → Size
of_exprs es = of (exprs_nodes es) (exprs_height es)

-- the size of the items of an array
abbrev pub of_items : PlainItems → Size
of_items is = of (items_nodes is) (items_height is)

-- the size of the keys of a target
abbrev pub of_path : PlainPath → Size
of_path ks = of (path_nodes ks) (path_height ks)

unfoldable mutual
  -- of statements, where what stands for the includes of a path has such a size
  pub of_stmts : (List ℕ → Size) → PlainStmts → Size
  of_stmts sizes no_stmts = none
  of_stmts sizes (more_stmts s ss) = beside (of_stmt sizes s) (of_stmts sizes ss)

  -- the size of a statement: for an include that of what stands for it, and one place more
  pub of_stmt : (List ℕ → Size) → PlainStmt → Size
  of_stmt sizes (inline_stmt t) = above none
  of_stmt sizes (echo_stmt es) = above (of_exprs es)
  of_stmt sizes (run_stmt e) = above (of_expr e)
  of_stmt sizes (if_stmt arms otherwise) = above (beside (of_arms sizes arms) (of_stmts sizes otherwise))
  of_stmt sizes (while_stmt e body) = above (beside (of_expr e) (of_stmts sizes body))
  of_stmt sizes (do_while_stmt body e) = above (beside (of_stmts sizes body) (of_expr e))
  of_stmt sizes (for_stmt begin e next body) =
      above (beside (beside (beside (of_exprs begin) (of_maybe e)) (of_exprs next)) (of_stmts sizes body))
  of_stmt sizes (each_stmt e key x body) = above (beside (of_expr e) (of_stmts sizes body))
  of_stmt sizes break_stmt = above none
  of_stmt sizes continue_stmt = above none
  of_stmt sizes (return_stmt e) = above (of_maybe e)
  of_stmt sizes (include_stmt path) = included (sizes path)
  of_stmt sizes (quit_stmt e) = above (of_maybe e)

  -- the size of the arms of an `if`
  pub of_arms : (List ℕ → Size) → PlainArms → Size
  of_arms sizes no_arms = none
  of_arms sizes (more_arms e body arms) = beside (beside (of_expr e) (of_stmts sizes body)) (of_arms sizes arms)

-- of parameters, whose defaults have their own
unfoldable pub of_params : List PlainParam → Size
of_params [] = none
of_params (p ∷ ps) = beside (above (of_maybe p.default_of)) (of_params ps)

-- the size of functions, with their parameters and bodies, where what stands for the includes of a path has such a size
unfoldable pub of_functions : (List ℕ → Size) → List PlainFunction → Size
unfolding of_params of_stmts
of_functions sizes [] = none
of_functions sizes (f ∷ fs) = beside (above (beside (of_params f.params_of) (of_stmts sizes f.body_of))) (of_functions sizes fs)

-- a size in a list, and none behind its end
abbrev pub size_or_none : Option Size → Size
size_or_none None = none
size_or_none (Some size) = size

-- the size at a place of a list, and none where there is no such place
abbrev pub size_among : List Size → Option ℕ → Size
size_among sizes None = none
size_among sizes (Some place) = size_or_none (slice_get sizes place)

-- the size that a list has for the file of a path
abbrev pub size_at : List ReadFile → List Size → List ℕ → Size
size_at files sizes path = size_among sizes (place_of files path)
