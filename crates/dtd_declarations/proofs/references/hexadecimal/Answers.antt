use Rattle.std.proofs.Common.{◌≡◌, sym, arith}
use Rattle.std.specs.Char.{is_ascii_hexdigit}
use Rattle.dtd_declarations.proofs.Numbers.{no_digits}
use Rattle.dtd_declarations.proofs.references.hexadecimal.Goals as goal

pub returns-then-not-head_is : goal.returns-then-not-head_is
returns-then-not-head_is c = no_digits is_ascii_hexdigit 16 3 c.hexadecimal_digits-n.result c.args.bytes.now c.behind-digits.result.now c.behind.result.now c.head_is.result
    c.behind-digits.ensures.value c.hexadecimal_digits-n.ensures.value c.behind.ensures.value c.head_is.ensures.value (search c.if-not-head_is.true)
