use Rattle.program_loader.proofs.NotRefused.{loaded_so}
use Rattle.program_loader.proofs.told_programs.loads_are_loaded.Goals as goal

pub returns : goal.returns
returns c = loaded_so
