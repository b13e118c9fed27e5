use Rattle.stmt_machine.proofs.Runs.{goes_on}
use Rattle.stmt_machine.proofs.laws.runs_go_on.Goals as goal

pub returns : goal.returns
returns c = goes_on c.what_is_read_is_shorter.ensures
