use Rattle.std.proofs.Common.{◌≡◌, drop}
use Rattle.lexical_grammar.specs.Signs.{first_sign}
use Rattle.php_lexer.proofs.signs.first_sign.Given as goal

abbrev pub invariant-loop-sign : goal.invariant-loop-sign
invariant-loop-sign l = first_sign l.signs l.bytes ≡ first_sign (drop l.sign-index l.signs) l.bytes
