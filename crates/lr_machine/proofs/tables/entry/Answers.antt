use Rattle.std.proofs.Common.{ap, ◌∙◌}
use Rattle.lr_machine.specs.Shown.{rows_of, step_for}
use Rattle.lr_machine.proofs.ReadingLemmas.{entry_at}
use Rattle.lr_machine.proofs.tables.entry.Goals as goal

pub returns : goal.returns
returns g c = c.step_of.ensures ∙ (ap step_for c.code_at.ensures ∙ entry_at (rows_of c.args.tables.now.rows.now c.args.tables.now.gotos.now c.args.tables.now.goto_of.now) c.args.state c.args.symbol)
