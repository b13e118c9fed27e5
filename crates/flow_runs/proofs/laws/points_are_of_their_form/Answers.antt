use Rattle.flow_runs.proofs.FitProgram.{flat_fits}
use Rattle.flow_runs.proofs.laws.points_are_of_their_form.Goals as goal

pub returns : goal.returns
returns c = flat_fits
