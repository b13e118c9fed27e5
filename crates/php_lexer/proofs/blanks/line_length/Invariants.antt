use Rattle.std.proofs.Common.{◌≡◌, ◌+◌, drop}
use Rattle.lexical_grammar.specs.Characters.{before}
use Rattle.lexical_grammar.specs.Cuts.{ends_line}
use Rattle.php_lexer.proofs.blanks.line_length.Given as goal

abbrev pub invariant-loop-n : goal.invariant-loop-n
invariant-loop-n l = before ends_line l.bytes ≡ l.n + before ends_line (drop l.n l.bytes)
