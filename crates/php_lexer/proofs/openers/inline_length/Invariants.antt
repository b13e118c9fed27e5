use Rattle.std.proofs.Common.{◌≡◌, ◌+◌, drop}
use Rattle.lexical_grammar.specs.Characters.{before}
use Rattle.lexical_grammar.specs.Cuts.{is_opener}
use Rattle.php_lexer.proofs.openers.inline_length.Given as goal

abbrev pub invariant-loop-n : goal.invariant-loop-n
invariant-loop-n l = before is_opener l.bytes ≡ l.n + before is_opener (drop l.n l.bytes)
