-- Variables as parameters and a map from names to values hold them.
use Rattle.std.specs.Prelude.{ℕ, suc, List, [], ◌∷◌, Option, Some, None, if◌then◌else◌, nat_eq}
use Rattle.std.specs.Option.{option_map}
use Rattle.std.specs.Borrow.{Bor}
use Rattle.std.specs.Cmp.Lexicographic.{pointwise}
use Rattle.php_values.specs.View.{plain_of}
use Rattle.php_values.specs.declared.array.Value.{Value}
use Rattle.script_meaning.specs.Runs.{Variables}

-- the plain form of variables, each with its name, in their order
abbrev pub plain_variables : List (Bor (List ℕ) × Value) → Variables
plain_variables [] = []
plain_variables (v ∷ vs) = (v.0.now, plain_of v.1) ∷ plain_variables vs

-- the place of the first variable of a name
abbrev pub place : List ℕ → List (Bor (List ℕ) × Value) → Option ℕ
place x [] = None
place x (v ∷ vs) = if pointwise nat_eq v.0.now x then Some 0 else option_map suc (place x vs)
