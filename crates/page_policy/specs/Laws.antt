-- The law of pattern files, as a statement.
use Rattle.std.specs.Prelude.{◌≡◌, ℕ, List}
use Rattle.page_policy.specs.Patterns.{Pattern}
use Rattle.page_policy.specs.Grammar.{Spells}

-- a file spells at most one pattern
abbrev pub SpellOne : Type 0
SpellOne = (file : List ℕ) (p q : Pattern) → Spells file p → Spells file q → p ≡ q
