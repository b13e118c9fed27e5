use Rattle.stmt_laws.proofs.SoundRuns.{file_read}
use Rattle.stmt_laws.proofs.soundness_laws.what_is_read_is_a_file.Goals as goal

pub returns : goal.returns
returns c = file_read c.what_is_read_is_an_expression.ensures
