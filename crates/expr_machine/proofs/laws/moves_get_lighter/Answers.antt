use Rattle.expr_machine.proofs.Runs.{lighter}
use Rattle.expr_machine.proofs.laws.moves_get_lighter.Goals as goal

pub returns : goal.returns
returns c = lighter
