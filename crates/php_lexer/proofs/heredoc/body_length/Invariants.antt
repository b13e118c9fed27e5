use Rattle.std.proofs.Common.{◌≡◌, ◌+◌, drop}
use Rattle.lexical_grammar.specs.Characters.{before}
use Rattle.lexical_grammar.specs.Heredocs.{ends_body}
use Rattle.php_lexer.proofs.heredoc.body_length.Given as goal

abbrev pub invariant-loop-n : goal.invariant-loop-n
invariant-loop-n l = before (ends_body l.name) l.bytes ≡ l.n + before (ends_body l.name) (drop l.n l.bytes)
