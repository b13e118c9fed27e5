-- What a document type definition text declares (XML 1.0, 2.8).
use Rattle.std.specs.Prelude.{◌≡◌, ℕ, true, List, [], map, None, if◌then◌else◌}
use Rattle.dtd_model.specs.Table.{Table}
use Rattle.dtd_model.specs.Lawful.{is_distinct}
use Rattle.dtd_model.specs.declared.dtd.DoctypeRule.TheVariants.{Free}
use Rattle.dtd_texts.specs.Places.{between}
use Rattle.io_edge.specs.Names.{beside, is_outside}
use Rattle.io_edge.specs.Told.{Content, known}
use Rattle.dtd_texts.specs.Reading.{State, Holds, Written, Reads, start}
use Rattle.dtd_texts.specs.Went.{leads}
use Rattle.dtd_texts.specs.Tables.{Said, said, element_names, rules_of}

-- the whole text is read
pub record ReadsAll (content : Content) (file : List ℕ) (last : State) : Type 0 where
  pub reads : Reads content [] start file last
  pub whole : last.place ≡ between

-- each of the declarations says this, and no element is declared twice (3.2, Unique Element Type Declaration)
pub record Says (written : List Written) (says : List Said) : Type 0 where
  pub once : is_distinct (element_names written) ≡ true
  pub each : map (λ (w : Written). said (element_names written) w.text) written ≡ map leads says

-- what names hold, as the file of this name means them: they are taken from its folder, and outside of this root there is no file
abbrev pub seen_from : List ℕ → List ℕ → Content → Content
seen_from root file content name = if is_outside root file name then known None else content (beside file name)

-- the file of this name declares this table, without a file from outside of this root
pub record DtdSpells (content : Content) (root name : List ℕ) (table : Table) : Type 0 where
  pub file : List ℕ
  pub held : Holds content name file
  pub last : State
  pub read : ReadsAll (seen_from root name content) file last
  pub says : List Said
  pub said : Says last.written says
  pub elements : table.elements ≡ rules_of says says
  pub entities : table.entities ≡ last.generals
  pub doctype : table.doctype ≡ Free
