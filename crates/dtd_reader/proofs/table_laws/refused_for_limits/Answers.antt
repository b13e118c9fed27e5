use Rattle.dtd_reader.proofs.NotRefused.{for_limits}
use Rattle.dtd_reader.proofs.table_laws.refused_for_limits.Goals as goal

pub returns : goal.returns
returns c = for_limits
