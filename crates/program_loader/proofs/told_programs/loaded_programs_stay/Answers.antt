use Rattle.program_loader.proofs.NotRefused.{loaded_later}
use Rattle.program_loader.proofs.told_programs.loaded_programs_stay.Goals as goal

pub returns : goal.returns
returns c = loaded_later
