use Rattle.std.proofs.Common.{◌≡◌, ◌+◌, drop}
use Rattle.lexical_grammar.specs.Characters.{before}
use Rattle.lexical_grammar.specs.Heredocs.{ends_by_return}
use Rattle.php_lexer.proofs.heredoc.return_place.Given as goal

abbrev pub invariant-loop-n : goal.invariant-loop-n
invariant-loop-n l = before (ends_by_return l.name) l.body ≡ l.n + before (ends_by_return l.name) (drop l.n l.body)
