use Rattle.std.proofs.Common.{sym}
use Rattle.plain_values.proofs.NumeralLemmas.{numeral_utf8, float_if}
use Rattle.plain_values.proofs.numeric.integer.Goals as goal

pub unreachable-requires : goal.unreachable-requires
unreachable-requires c = c.in-Err.ensures.cases.0 (numeral_utf8 c.args.body.now c.requires)

pub returns-in-Err-parse : goal.returns-in-Err-parse
returns-in-Err-parse c = float_if c.args.body.now c.requires (rw (sym c.in-Ok.ensures.cases.0) c.in-Err-parse.ensures.value.0)
