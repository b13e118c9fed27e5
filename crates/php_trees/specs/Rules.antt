-- Which values keep the rules beside the grammar, each as a part of a script.
use Rattle.std.specs.Prelude.{Bool, true, false, ◌&&◌, List, [], ◌∷◌, Option, Some, None, if◌then◌else◌}
use Rattle.script_grammar.specs.Rules.{is_known, is_utf8, expr_fits, maybe_fits, exprs_fit, items_fit, path_fits, stmts_fit, arms_fit, params_fit, functions_fit, file_fits}
use Rattle.php_trees.specs.Values.{Argument, given, quotes_flag, Value, leaf, absent, expr, place, quotes, printing, including, quitting, exprs, arguments, items, stmts, branch, params, function, file}

-- whether each argument keeps them
abbrev pub arguments_fit : List Argument → Bool
arguments_fit [] = true
arguments_fit (given s e ∷ gs) = expr_fits e && arguments_fit gs
arguments_fit (quotes_flag ∷ gs) = arguments_fit gs

-- Whether a value keeps them, wherever it may stand: that a `break` stands in a loop, and a `return` in a function, is asked of functions
-- and of the statements of a file.
abbrev pub keeps : Value → Bool
keeps (leaf k) = true
keeps absent = true
keeps (expr s e) = expr_fits e
keeps (place x ks) = is_known x && path_fits ks
keeps quotes = true
keeps (printing e) = expr_fits e
keeps (including t) = is_utf8 t
keeps (quitting m) = maybe_fits m
keeps (exprs es) = exprs_fit es
keeps (arguments gs) = arguments_fit gs
keeps (items is hole) = items_fit is
keeps (stmts ss) = stmts_fit true true ss
keeps (branch arms others) = arms_fit true true arms && stmts_fit true true others
keeps (params ps) = params_fit ps
keeps (function f) = functions_fit (f ∷ [])
keeps (file f) = file_fits f

-- a value that keeps them
abbrev pub kept : Option Value → Option Value
kept None = None
kept (Some v) = if keeps v then Some v else None
