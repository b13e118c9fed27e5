use Rattle.std.proofs.Common.{◌≡◌, ◌+◌, drop}
use Rattle.lexical_grammar.specs.Characters.{before}
use Rattle.lexical_grammar.specs.Heredocs.{indented_line}
use Rattle.php_lexer.proofs.heredoc.indented_place.Given as goal

abbrev pub invariant-loop-n : goal.invariant-loop-n
invariant-loop-n l = before (indented_line l.name) l.body ≡ l.n + before (indented_line l.name) (drop l.n l.body)
