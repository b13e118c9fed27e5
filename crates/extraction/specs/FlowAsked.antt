-- Of which names the lister of a program may be asked.
use Rattle.loose_sets.specs.Used.{IsUsed}
use Rattle.loose_sets.specs.declared.name.SetName.{SetName}
use Rattle.extraction.specs.declared.tables.FlowTables.{FlowTables}
use Rattle.extraction.specs.Tables.{flow_of, at_in, AreTables}

-- the set is used, and the tables are those of the program
pub record IsAsked (t : FlowTables) (n : SetName) : Type 0 where
  pub tables : AreTables t
  pub used : IsUsed (flow_of t) (at_in t) n
