use Rattle.stmt_machine.proofs.Runs.{lighter}
use Rattle.stmt_machine.proofs.laws.moves_get_lighter.Goals as goal

pub returns : goal.returns
returns c = lighter c.what_is_read_is_shorter.ensures
