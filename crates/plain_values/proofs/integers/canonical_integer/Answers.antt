use Rattle.std.proofs.Common.{sym}
use Rattle.plain_values.proofs.CanonicalLemmas.{none_unless_utf8, none_unless_parsed}
use Rattle.plain_values.proofs.integers.canonical_integer.Goals as goal

pub returns-in-Err-parse : goal.returns-in-Err-parse
returns-in-Err-parse c = none_unless_parsed c.args.text.now c.in-Err-parse.field-0 (rw (sym c.in-Ok.ensures.cases.0) c.in-Err-parse.ensures.value.0)

pub returns-in-Err : goal.returns-in-Err
returns-in-Err c = none_unless_utf8 c.args.text.now c.in-Err.ensures.cases.0
