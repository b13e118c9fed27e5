use Rattle.std.proofs.Common.{◌≡◌, ◌+◌, drop, codes}
use Rattle.lexical_grammar.specs.Characters.{before, begins}
use Rattle.php_lexer.proofs.blanks.block_length.Given as goal

abbrev pub invariant-loop-n : goal.invariant-loop-n
invariant-loop-n l = before (begins (codes "*/")) l.bytes ≡ l.n + before (begins (codes "*/")) (drop l.n l.bytes)
