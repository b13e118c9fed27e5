-- How the code answers an action.
use Rattle.std.specs.Prelude.{◌≡◌, Bool, true, false, Option, Some, None}
use Rattle.stmt_machine.specs.Made.{Made}

-- whether it was done, with what is made afterwards, or it breaks a rule of the language
abbrev pub Does : Option Made → Bool → Made → Type 0
Does wanted true m = wanted ≡ Some m
Does wanted false m = wanted ≡ None
