use Rattle.flow_runs.proofs.Program.{runs_ended}
use Rattle.flow_runs.proofs.laws.runs_of_points_are_ended_runs.Goals as goal

pub returns : goal.returns
returns c = runs_ended
