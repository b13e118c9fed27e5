use Rattle.std.proofs.Common.{◌≡◌, ◌≤◌, take}
use Rattle.lexical_grammar.specs.Characters.{value_of, largest}
use Rattle.php_lexer.proofs.numbers.value_of.Given as goal

abbrev pub invariant-loop-digit : goal.invariant-loop-digit
invariant-loop-digit l = (l.n ≡ value_of (take l.digit-index l.digits)) × (l.n ≤ largest)
