use Rattle.dtd_reader.proofs.NothingWrong.{each_says, never_twice}
use Rattle.dtd_reader.proofs.table_laws.nothing_wrong.Goals as goal

pub returns : goal.returns
returns c = record { each = each_says; once = never_twice }
