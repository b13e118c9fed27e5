-- The table that declarations make (XML 1.0, 3.2 and 3.3).
use Rattle.std.specs.Prelude.{◌≡◌, ℕ, List}
use Rattle.dtd_model.specs.Table.{Table}
use Rattle.dtd_model.specs.declared.dtd.DoctypeRule.TheVariants.{Free}
use Rattle.dtd_texts.specs.Reading.{Written}
use Rattle.dtd_texts.specs.Tables.{Said, rules_of}
use Rattle.dtd_texts.specs.Spells.{Says}

-- the declarations say something each, no element twice; the table has their rules and these entities, and wants no document type
pub record IsTable (written : List Written) (generals : List (List ℕ)) (table : Table) : Type 0 where
  pub says : List Said
  pub said : Says written says
  pub elements : table.elements ≡ rules_of says says
  pub entities : table.entities ≡ generals
  pub doctype : table.doctype ≡ Free
