use Rattle.expr_machine.proofs.Runs.{shorter}
use Rattle.expr_machine.proofs.laws.what_is_read_is_shorter.Goals as goal

pub returns : goal.returns
returns c = shorter
