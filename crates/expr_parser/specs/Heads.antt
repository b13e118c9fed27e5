-- The terminals of tokens, and the terminal at the head.
use Rattle.std.specs.Prelude.{List, ◌∷◌, map, Option, Some, None}
use Rattle.php_syntax.specs.declared.token.Token.{Token}
use Rattle.php_syntax.specs.Tokens.{plain_tokens, plain_part_of}
use Rattle.script_grammar.specs.Terminals.{Terminal, inline_terminal, variable_terminal, word_terminal, name_terminal, int_terminal, text_terminal, template_terminal, sign_terminal, terminals}
use Rattle.php_syntax.specs.declared.token.Sign.TheVariants as signs
use Rattle.expr_machine.specs.Machine.{behind_charset}
use Rattle.expr_parser.specs.declared.head.Head.{Head}
use Rattle.expr_parser.specs.declared.head.Head.TheVariants as head

-- the terminals of tokens as they lie in memory
unfoldable pub terminals_of : List Token → List Terminal
terminals_of ts = terminals (plain_tokens ts)

-- the terminal that a reader sees
abbrev pub terminal_at : Head → Terminal
terminal_at (head.Inline t) = inline_terminal t.now
terminal_at (head.Var x) = variable_terminal x.now
terminal_at (head.Word k) = word_terminal k
terminal_at (head.Name w) = name_terminal w.now
terminal_at (head.Int z) = int_terminal z
terminal_at (head.Text t) = text_terminal t.now
terminal_at (head.Template ps) = template_terminal (map plain_part_of ps.now)
terminal_at (head.Sign s) = sign_terminal s

-- what stands behind `)` or `, 'UTF-8' )`, if that stands next
abbrev pub quotes_end : List Terminal → Option (List Terminal)
quotes_end (sign_terminal signs.CloseParen ∷ r) = Some r
quotes_end (sign_terminal signs.Comma ∷ text_terminal t ∷ sign_terminal signs.CloseParen ∷ r) = behind_charset t r
quotes_end _ = None
