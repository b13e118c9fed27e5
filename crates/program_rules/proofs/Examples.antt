-- The definitions on worked examples and near misses.
use Rattle.std.proofs.Common.{◌≡◌, ℕ, true, false, List, [], ◌∷◌, refl}
use Rattle.std.specs.Prelude.{codes, pos}
use Rattle.php_syntax.specs.Trees.{var_expr, int_expr, call_expr, no_expr, some_expr, no_exprs, more_exprs, PlainStmt, inline_stmt, run_stmt, while_stmt, include_stmt, PlainStmts, no_stmts, more_stmts, PlainParam, PlainFunction, PlainFile}
use Rattle.script_meaning.specs.Programs.{PlainProgram, function_named}
use Rattle.program_rules.specs.Includes.{includes_in, includes_of_file}
use Rattle.program_rules.specs.Bodies.{with_bodies}
use Rattle.program_rules.specs.Calls.{calls_of_program}
use Rattle.program_rules.specs.Rules.{is_double, serves, serves_call, is_known}
use Rattle.program_rules.specs.Programs.{taken}

abbrev includes : List ℕ → PlainStmt
includes path = include_stmt path

-- `include 'a'; while ($x) { include 'b'; } function f() { include 'c'; }` has its own includes first, and then those of its function
abbrev f : PlainFunction
f = record { name_of = codes "f"; params_of = []; body_of = more_stmts (includes (codes "c")) no_stmts }

abbrev file : PlainFile
file = record { body_of = more_stmts (includes (codes "a")) (more_stmts (while_stmt (var_expr (codes "x")) (more_stmts (includes (codes "b")) no_stmts)) no_stmts); functions_of = f ∷ [] }

in_order : includes_of_file file ≡ codes "a" ∷ codes "b" ∷ codes "c" ∷ []
unfolding includes_of_file includes_in
in_order = refl

-- an include in the middle stands for the statements of its file, in a row with the others
abbrev two : List ℕ → PlainStmts
two path = more_stmts (inline_stmt path) (more_stmts (inline_stmt (codes "-")) no_stmts)

in_its_place : with_bodies two (more_stmts (inline_stmt (codes "1")) (more_stmts (includes (codes "a")) (more_stmts (inline_stmt (codes "2")) no_stmts)))
    ≡ more_stmts (inline_stmt (codes "1")) (more_stmts (inline_stmt (codes "a")) (more_stmts (inline_stmt (codes "-")) (more_stmts (inline_stmt (codes "2")) no_stmts)))
unfolding with_bodies
in_its_place = refl

-- the calls of `f(g($x));`
abbrev nested : PlainProgram
nested = record { main_of = more_stmts (run_stmt (call_expr (codes "f") (more_exprs (call_expr (codes "g") (more_exprs (var_expr (codes "x")) no_exprs)) no_exprs))) no_stmts; functions_of = f ∷ [] }

its_calls : calls_of_program nested ≡ record { name_of = codes "f"; arguments = 1 } ∷ record { name_of = codes "g"; arguments = 1 } ∷ []
unfolding calls_of_program
its_calls = refl

-- `f` is known, `g` is not, and `trim` is
f_is_known : is_known (f ∷ []) (record { name_of = codes "f"; arguments = 1 }) ≡ true
unfolding function_named
f_is_known = refl

g_is_not : is_known (f ∷ []) (record { name_of = codes "g"; arguments = 1 }) ≡ false
unfolding function_named
g_is_not = refl

trim_is_known : is_known (f ∷ []) (record { name_of = codes "trim"; arguments = 1 }) ≡ true
trim_is_known = refl

-- `function f($a, $b = 1)` takes one argument or two, and neither none nor three
abbrev params : List PlainParam
params = record { name_of = codes "a"; default_of = no_expr } ∷ record { name_of = codes "b"; default_of = some_expr (int_expr (pos 1)) } ∷ []

one_serves : serves 1 params ≡ true
unfolding serves
one_serves = refl

two_serve : serves 2 params ≡ true
unfolding serves
two_serve = refl

none_does_not : serves 0 params ≡ false
unfolding serves
none_does_not = refl

three_do_not : serves 3 params ≡ false
unfolding serves
three_do_not = refl

-- `substr` with one argument is called with too few, and with two it is not
too_few : serves_call (f ∷ []) (record { name_of = codes "substr"; arguments = 1 }) ≡ false
too_few = refl

enough : serves_call (f ∷ []) (record { name_of = codes "substr"; arguments = 2 }) ≡ true
enough = refl

-- a function of the name of one of PHP's is a double, and so is one that stands again
of_php : is_double (codes "trim") [] ≡ true
of_php = refl

again : is_double (codes "f") (f ∷ []) ≡ true
again = refl

single : is_double (codes "g") (f ∷ []) ≡ false
single = refl

-- of the stubs `trim`, `f` and `g` a program with an `f` of its own takes `g` alone, and one without functions `f` and `g`
abbrev stub : List ℕ → PlainFunction
stub name = record { name_of = name; params_of = []; body_of = no_stmts }

abbrev stubs : List PlainFunction
stubs = stub (codes "trim") ∷ stub (codes "f") ∷ stub (codes "g") ∷ []

takes_g : taken (f ∷ []) stubs ≡ stub (codes "g") ∷ []
takes_g = refl

takes_both : taken [] stubs ≡ stub (codes "f") ∷ stub (codes "g") ∷ []
takes_both = refl
