use Rattle.include_expansion.proofs.ReadLemmas.{are_read}
use Rattle.include_expansion.proofs.reading_laws.files_of_the_program.Goals as goal

pub returns : goal.returns
returns c = are_read
