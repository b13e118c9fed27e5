use Rattle.flow_runs.proofs.Program.{ended_runs}
use Rattle.flow_runs.proofs.laws.ended_runs_are_runs_of_points.Goals as goal

pub returns : goal.returns
returns c = ended_runs
