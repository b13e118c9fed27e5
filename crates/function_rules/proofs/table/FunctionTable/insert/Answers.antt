use Rattle.function_rules.proofs.TableLemmas.{inserted}
use Rattle.function_rules.proofs.table.FunctionTable.insert.Goals as goal

pub returns : goal.returns
returns c functions function table none same takes =
    inserted c.args.self.now.rows c.insert.new.self functions function c.args.name c.args.numbers c.in_ok-insert.ensures.updates.0 table none same takes
