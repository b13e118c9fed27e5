use Rattle.flow_runs.proofs.Fitting.{have_defaults}
use Rattle.flow_runs.proofs.Keys.{program_keyed}
use Rattle.flow_runs.proofs.program_laws.runs_of_points_are_lawful_runs.Goals as goal

pub returns : goal.returns
returns c program r w lawful run = c.runs_of_points_are_ended_runs.ensures program r w (have_defaults program lawful) (program_keyed program lawful) run
