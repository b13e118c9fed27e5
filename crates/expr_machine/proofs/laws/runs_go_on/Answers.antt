use Rattle.expr_machine.proofs.Runs.{goes_on}
use Rattle.expr_machine.proofs.laws.runs_go_on.Goals as goal

pub returns : goal.returns
returns c = goes_on
