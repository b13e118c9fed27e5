-- The text forms of values of the code in turn.
use Rattle.std.specs.Prelude.{ℕ, List, flat_map}
use Rattle.plain_values.specs.Text.{text_of}
use Rattle.php_values.specs.View.{plain_list}
use Rattle.php_values.specs.declared.array.Value.{Value}

-- the text forms of values, one behind the other
abbrev pub joined : List Value → List ℕ
joined values = flat_map text_of (plain_list values)
