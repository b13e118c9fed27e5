use Rattle.program_files.proofs.ReachedLemmas.{paths_read}
use Rattle.include_expansion.proofs.reading_laws.names_looked_at.Goals as goal

pub returns : goal.returns
returns c = λ held name files paths path reached own. paths_read held name files paths reached path own
