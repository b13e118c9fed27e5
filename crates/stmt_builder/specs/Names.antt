-- The parameters of a function, as the code keeps them.
use Rattle.std.specs.Prelude.{◌≡◌, ℕ, List, map}
use Rattle.php_syntax.specs.declared.tree.Param.{Param}
use Rattle.php_syntax.specs.Trees.{params_of_list}
use Rattle.php_syntax.specs.Height.{params_height}

-- the set has the names of the parameters in turn, and the height is theirs
pub record ParametersAre (params : List Param) (names : List (List ℕ)) (height : ℕ) : Type 0 where
  pub named : names ≡ map (λ p. p.name) params
  pub high : height ≡ params_height (params_of_list params)
