use Rattle.dtd_reader.proofs.OneTable as laws
use Rattle.dtd_reader.proofs.table_laws.one_table.Goals as goal

pub returns : goal.returns
returns c = laws.one_table
