-- An array within an array is smaller.
use Rattle.std.specs.Prelude.{ℕ, ◌≤◌, max, List, [], ◌∷◌}
use Rattle.std.proofs.Common.{arith}
use Rattle.plain_values.specs.Plain.{weight, weight_of}
use Rattle.php_values.specs.View.{pairs_of, plain_of}
use Rattle.php_values.specs.declared.key.Key.{Key}
use Rattle.php_values.specs.declared.array.Value.{Value}
use Rattle.php_values.specs.declared.array.Value.TheVariants.{Null, Flag, Int, Text, Array, the_data}
use Rattle.php_values.specs.declared.array.Array.TheDeep.{deep-Value}
use Rattle.php_values.specs.declared.array.Array.TheShapes.{weighed-Members-pairs-at-2}
use denote.Param.Weighed.{most}

deep_value_le : (v : Value) → deep-Value v ≤ weight_of (plain_of v)
deep_value_le Null = omega arith
deep_value_le (Flag b) = omega arith
deep_value_le (Int z) = omega arith
deep_value_le (Text t) = omega arith
deep_value_le (Array ps) = omega arith

-- how deep a pair is, by the measure of the type of its value
abbrev deep_pair : Key × Value → ℕ
deep_pair p = weighed-Members-pairs-at-2.weight the_data deep-Value p

deep_pair_le : (p : Key × Value) → deep_pair p ≤ weight_of (plain_of p.1)
deep_pair_le (k, v) = omega (arith, deep_value_le v)

-- the deepest of the pairs is no deeper than the weight of their plain form
pub deep_pairs_le : (ps : List (Key × Value))
    → max (most (λ (p : Key × Value). weighed-Members-pairs-at-2.weight the_data deep-Value p) ps) 0 ≤ weight (pairs_of ps)
deep_pairs_le [] = omega arith
deep_pairs_le (p ∷ ps) = omega (arith, deep_pair_le p, deep_pairs_le ps)
