-- How many arguments the functions take (PHP manual, each function under its name). `htmlspecialchars` takes its flags and its
-- encoding in the script's text alone, where they say nothing.
use Rattle.std.specs.Prelude.{ℕ}
use Rattle.builtin_meaning.specs.declared.builtin.Builtin.{Builtin}
use Rattle.builtin_meaning.specs.declared.builtin.Builtin.TheVariants.{StrReplace, Substr, Explode, Implode, StrRepeat, Intdiv}

-- the least and the greatest number
abbrev pub arity_of : Builtin → ℕ × ℕ
arity_of StrReplace = (3, 3)
arity_of Substr = (2, 3)
arity_of Explode = (2, 2)
arity_of Implode = (2, 2)
arity_of StrRepeat = (2, 2)
arity_of Intdiv = (2, 2)
arity_of _ = (1, 1)
