use Rattle.flow_runs.proofs.Bounds.{points_few}
use Rattle.flow_runs.proofs.program_laws.lawful_points_are_few.Goals as goal

pub returns : goal.returns
returns c = points_few
