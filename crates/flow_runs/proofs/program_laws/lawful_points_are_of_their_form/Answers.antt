use Rattle.flow_runs.proofs.Fitting.{have_defaults, program_fits}
use Rattle.flow_runs.proofs.program_laws.lawful_points_are_of_their_form.Goals as goal

pub returns : goal.returns
returns c program lawful texts = c.points_are_of_their_form.ensures program (have_defaults program lawful) (program_fits program lawful texts)
