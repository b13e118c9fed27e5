use Rattle.std.proofs.Common.{◌+◌, arith}
use Rattle.php_lexer.proofs.ValueLemmas.{value_of_take, value_of_more}
use Rattle.php_lexer.proofs.numbers.value_of.Goals as goal

pub returns-then-n-clause-none : goal.returns-then-n-clause-none
returns-then-n-clause-none c =
    omega (arith, value_of_take (c.loop-digit.digit-index + 1) c.args.digits.now, value_of_more c.args.digits.now c.loop-digit.digit-index (omega arith), c.loop-digit.invariant.0)

pub returns-then-n-gt-LARGEST-clause-none : goal.returns-then-n-gt-LARGEST-clause-none
returns-then-n-gt-LARGEST-clause-none c =
    omega (arith, value_of_take (c.loop-digit.digit-index + 1) c.args.digits.now, value_of_more c.args.digits.now c.loop-digit.digit-index (omega arith), c.loop-digit.invariant.0)
