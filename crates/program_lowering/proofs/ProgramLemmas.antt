-- All functions are a program.
use Rattle.std.proofs.Common.{◌≡◌, ◌≤◌, ◌∙◌, ℕ, List, [], ◌∷◌, length, sym, ap, subst, arith}
use Rattle.php_syntax.specs.declared.tree.FunctionDef.{FunctionDef}
use Rattle.php_syntax.specs.declared.tree.Stmt.{Stmt}
use Rattle.php_syntax.specs.Trees.{functions_of_list}
use Rattle.program_rules.specs.Lawful.{program_with}
use Rattle.script_meaning.specs.Requests.{PlainRequest}
use Rattle.flow_code.specs.Points.{PlainFlowFunction, PlainFlow, points_in}
use Rattle.flow_code.specs.Flat.{flat_functions, main_function, flat}
use Rattle.flow_code.specs.Runs.{FlatRun}
use Rattle.program_lowering.specs.Bodies.{function_with}

-- a program of points by its functions
abbrev pub flow_of : List PlainFlowFunction → PlainFlow
flow_of functions = record { functions_of = functions }

pub program_is : {made : List PlainFlowFunction} {m : List Stmt} {fs : List FunctionDef} (main : List Stmt) (functions : List FunctionDef) → m ≡ main → fs ≡ functions
    → made ≡ flat_functions (functions_of_list fs) (function_with [] [] m ∷ functions_of_list fs) 0 0 → flow_of made ≡ flat (program_with main functions)
unfolding flat main_function
program_is {made} {m} {fs} main functions same_main same_functions is =
    λ i. flow_of ((is ∙ (λ j. flat_functions (functions_of_list (same_functions j)) (function_with [] [] (same_main j) ∷ functions_of_list (same_functions j)) 0 0)) i)

-- what is said of the points of a program is said of those that were made

pub few_of : {made flow : PlainFlow} {n : ℕ} → made ≡ flow → length (points_in flow.functions_of) ≤ n → length (points_in made.functions_of) ≤ n
few_of {made} {flow} {n} is h = let e : length (points_in made.functions_of) ≡ length (points_in flow.functions_of) = ap (λ (f : PlainFlow). length (points_in f.functions_of)) is in omega (arith, e, h)

pub run_of : {made flow : PlainFlow} {r : PlainRequest} {w : List ℕ} → made ≡ flow → FlatRun flow r w → FlatRun made r w
run_of {made} {flow} {r} {w} is h = subst (λ (f : PlainFlow). FlatRun f r w) (sym is) h
