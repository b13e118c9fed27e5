-- The plain form of the values of the code.
use Rattle.std.specs.Prelude.{List, [], ◌∷◌, Option, Some, None}
use Rattle.plain_values.specs.Plain.{Plain, PlainKey, Pairs, int_key, text_key, null, flag, int, text, array, empty, pair}
use Rattle.php_values.specs.declared.key.Key.{Key}
use Rattle.php_values.specs.declared.key.Key.TheVariants as key
use Rattle.php_values.specs.declared.array.Value.{Value}
use Rattle.php_values.specs.declared.array.Value.TheVariants as value

-- a key
abbrev pub plain_key : Key → PlainKey
plain_key (key.Int z) = int_key z
plain_key (key.Text t) = text_key t

-- a value
abbrev pub plain_of : Value → Plain
plain_of value.Null = null
plain_of (value.Flag b) = flag b
plain_of (value.Int z) = int z
plain_of (value.Text t) = text t
plain_of (value.Array ps) = array ps

-- the pairs of an array, as a vector holds them
abbrev pub pairs_of : List (Key × Value) → Pairs
pairs_of [] = empty
pairs_of (p ∷ ps) = pair (plain_key p.0) (plain_of p.1) (pairs_of ps)

-- a path: a key at each step, or None for a member that comes next
abbrev pub plain_step : Option Key → Option PlainKey
plain_step None = None
plain_step (Some k) = Some (plain_key k)

-- the plain form of a path, step by step
abbrev pub plain_path : List (Option Key) → List (Option PlainKey)
plain_path [] = []
plain_path (s ∷ ss) = plain_step s ∷ plain_path ss

-- values in a row
abbrev pub plain_list : List Value → List Plain
plain_list [] = []
plain_list (v ∷ vs) = plain_of v ∷ plain_list vs

-- a value that is found, where nothing is found null
abbrev pub found_plain : Option Value → Plain
found_plain None = null
found_plain (Some v) = plain_of v
