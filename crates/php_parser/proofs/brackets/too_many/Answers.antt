use Rattle.std.proofs.Common.{rules}
use Rattle.php_syntax.specs.Tokens.{plain_kind}
use Rattle.script_grammar.specs.Terminals.{terminal_of}
use Rattle.expr_parser.specs.Heads.{terminals_of}
use Rattle.php_parser.proofs.Open.{open_too_many}
use Rattle.php_parser.proofs.brackets.too_many.Goals as goal

pub returns-then-count-gt-HEIGHT_LIMIT : goal.returns-then-count-gt-HEIGHT_LIMIT
returns-then-count-gt-HEIGHT_LIMIT c = open_too_many (terminals_of c.args.tokens.now) (terminals_of c.tokens.rest.now) (terminals_of c.in-Some.more.now) (terminal_of (plain_kind c.in-Some.kind.now)) c.tokens.count c.in-Some.ensures c.tokens.invariant (search rules)
