use Rattle.include_expansion.proofs.CallLemmas.{program_sub}
use Rattle.include_expansion.proofs.expansion_keeps.calls_are_in_files.Goals as goal

pub returns : goal.returns
returns c = program_sub
