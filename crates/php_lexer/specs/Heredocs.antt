-- What the kinds of bodies stand for.
use Rattle.lexical_grammar.specs.Heredocs as heredocs
use Rattle.php_lexer.specs.declared.heredoc.Body.{Body}
use Rattle.php_lexer.specs.declared.heredoc.Body.TheVariants.{Heredoc, Nowdoc}

-- the plain form of the kind of a body
abbrev pub body_of : Body → heredocs.Body
body_of Heredoc = heredocs.of_heredoc
body_of Nowdoc = heredocs.of_nowdoc
