use Rattle.flow_runs.proofs.Fitting.{have_defaults}
use Rattle.flow_runs.proofs.program_laws.lawful_runs_are_runs_of_points.Goals as goal

pub returns : goal.returns
returns c program r n w lawful ended = c.ended_runs_are_runs_of_points.ensures program r n w (have_defaults program lawful) ended
