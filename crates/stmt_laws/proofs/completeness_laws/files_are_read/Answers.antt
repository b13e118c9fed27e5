use Rattle.stmt_laws.proofs.Files.{file_read}
use Rattle.stmt_laws.proofs.completeness_laws.files_are_read.Goals as goal

pub returns : goal.returns
returns c = file_read (record { read = c.expressions_are_read.ensures; shorter = c.what_is_read_is_shorter.ensures })
