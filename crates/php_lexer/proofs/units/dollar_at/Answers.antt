use Rattle.std.proofs.Common.{arith}
use Rattle.php_lexer.proofs.WithinLemmas.{ok_within_more}
use Rattle.php_lexer.proofs.units.dollar_at.Goals as goal

pub returns-then-n-gt0-clause-within : goal.returns-then-n-gt0-clause-within
returns-then-n-gt0-clause-within c = ok_within_more _ _ c.named_at.result (omega (arith, c.front.ensures.len, c.behind.ensures.len, c.name_length-n.ensures.within)) c.named_at.ensures.within
