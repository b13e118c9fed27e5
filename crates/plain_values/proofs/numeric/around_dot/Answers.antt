use Rattle.std.proofs.Common.{sym}
use Rattle.plain_values.specs.Numeric.{is_dot}
use Rattle.plain_values.proofs.PartsLemmas.{whole_if_none, around_if_some}
use Rattle.plain_values.proofs.numeric.around_dot.Goals as goal

pub returns-in-None : goal.returns-in-None
returns-in-None c = whole_if_none is_dot c.args.text.now (sym c.in-None.ensures)

pub returns-in-Some : goal.returns-in-Some
returns-in-Some c = around_if_some is_dot c.args.text.now c.in-Some.at (sym c.in-Some.ensures)
