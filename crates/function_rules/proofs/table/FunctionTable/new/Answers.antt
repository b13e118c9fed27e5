use Rattle.function_rules.proofs.TableLemmas.{empty_table}
use Rattle.function_rules.proofs.table.FunctionTable.new.Goals as goal

pub returns : goal.returns
returns c = empty_table c.new.result c.new.ensures.empty
