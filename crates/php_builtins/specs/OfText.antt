-- The functions of one text, whose result is a text.
use Rattle.std.specs.Prelude.{ℕ, List}
use Rattle.string_functions.specs.Case.{lower_of, upper_of, first_upper_of}
use Rattle.string_functions.specs.Trim.{trim_of}
use Rattle.string_functions.specs.Breaks.{breaks_of}
use Rattle.php_builtins.specs.Encodings.{encoded}
use Rattle.php_builtins.specs.declared.values.OfText.{OfText}
use Rattle.php_builtins.specs.declared.values.OfText.TheVariants.{Lower, Upper, FirstUpper, Trim, Breaks, Encoded}

-- what the function makes of a text
abbrev pub made_by : OfText → List ℕ → List ℕ
made_by Lower = lower_of
made_by Upper = upper_of
made_by FirstUpper = first_upper_of
made_by (Trim left right) = trim_of left right
made_by Breaks = breaks_of
made_by (Encoded encoding) = encoded encoding
