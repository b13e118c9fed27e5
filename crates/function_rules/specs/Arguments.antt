-- How many arguments a function takes.
use Rattle.std.specs.Prelude.{◌≡◌, ℕ, ◌&&◌, nat_le, List}
use Rattle.php_syntax.specs.Trees.{PlainParam}
use Rattle.program_rules.specs.Rules.{serves}
use Rattle.function_rules.specs.declared.arity.Numbers.{Numbers}

-- these numbers of arguments serve the parameters, and no others
abbrev pub AreNumbersOf : Numbers → List PlainParam → Type 0
AreNumbersOf numbers params = (n : ℕ) → serves n params ≡ (nat_le numbers.least n && nat_le n numbers.most)
