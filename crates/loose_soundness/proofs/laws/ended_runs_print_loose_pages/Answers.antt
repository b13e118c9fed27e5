use Rattle.loose_soundness.proofs.Sound.{ended_runs}
use Rattle.loose_soundness.proofs.laws.ended_runs_print_loose_pages.Goals as goal

pub returns : goal.returns
returns c = ended_runs
