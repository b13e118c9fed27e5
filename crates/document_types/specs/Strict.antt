-- The document type definition of XHTML 1.0 Strict.
use Rattle.std.specs.Prelude.{◌≡◌, ℕ, List, ◌++◌, codes}
use Rattle.dtd_model.specs.Table.{Table}
use Rattle.dtd_model.specs.declared.dtd.DoctypeRule.TheVariants.{Strict, Free}
use Rattle.io_edge.specs.Told.{Content}
use Rattle.dtd_texts.specs.Spells.{DtdSpells}
use Rattle.dtd_reader.specs.Source.{source_call}
use Rattle.dtd_reader.specs.Refusals.{IsCause}
use Rattle.dtd_reader.specs.declared.refusal.DtdRefusal.{DtdRefusal}
use Rattle.document_types.specs.OneFile.{file_alone}
use Rattle.document_types.specs.declared.declarations.TheConstants.{DECLARATIONS}
use Rattle.document_types.specs.declared.entities.TheConstants.{ENTITIES}

-- the built-in text: the declarations of elements and attributes, and those of entities
unfoldable pub strict_bytes : List ℕ
strict_bytes = DECLARATIONS.now ++ ENTITIES.now

-- the name of a text
abbrev pub file_name : List ℕ
file_name = codes "xhtml1-strict.dtd"

-- the folder out of which it asks for nothing
abbrev pub file_root : List ℕ
file_root = codes "."

-- there is this text of that name, and no other file
abbrev pub only_file : List ℕ → Content
only_file = file_alone file_name

-- the table that the text spells, for pages that declare XHTML 1.0 Strict (XHTML 1.0, 3.1.1)
pub record IsStrict (text : List ℕ) (table : Table) : Type 0 where
  pub spelled : DtdSpells (only_file text) file_root file_name (record table { doctype = Free })
  pub doctype : table.doctype ≡ Strict

-- why a text has none, where the source of the one file has not failed
abbrev pub IsRefused : List ℕ → DtdRefusal → Type 0
IsRefused text refusal = (misses : ℕ) × IsCause (source_call (only_file text) 0 0 0 misses) file_root file_name refusal
