-- The document types that words may name, the table that each has, and why there is none.
use Rattle.std.specs.Prelude.{◌≡◌, ℕ, List, Option, option_map, if◌then◌else◌, bytes_eq, codes, ⊤}
use Rattle.dtd_model.specs.Table.{Table}
use Rattle.dtd_model.specs.Mini.{mini_table}
use Rattle.io_edge.specs.Names.{normal, root_for}
use Rattle.io_edge.specs.Told.{Content}
use Rattle.dtd_texts.specs.Spells.{DtdSpells}
use Rattle.dtd_reader.specs.Source.{SourceCall, IsCalm}
use Rattle.dtd_reader.specs.Refusals.{IsCause}
use Rattle.dtd_reader.specs.declared.refusal.DtdRefusal.{DtdRefusal}
use Rattle.dtd_reader.specs.Certain.{AreTold, AreShort, PassesLimit}
use Rattle.document_types.specs.Strict.{file_name, file_root, only_file, strict_bytes, IsStrict, IsRefused}
use Rattle.document_types.specs.declared.document_type.DocumentType.{DocumentType}
use Rattle.document_types.specs.declared.document_type.DocumentType.TheVariants.{Strict, Mini, File}
use Rattle.document_types.specs.declared.refusal.DefinitionRefusal.{DefinitionRefusal}
use Rattle.document_types.specs.declared.refusal.DefinitionRefusal.TheVariants as refusal

-- XHTML 1.0 Strict, the smallest document type, or the one that the file of a name in its normal form defines, without a file
-- from outside of the root
pub data NamedType : Type 0 where
  strict_type : NamedType
  mini_type : NamedType
  file_type : (name root : List ℕ) → NamedType

-- that of a file, by the folder that is given for the root, if one is
abbrev pub type_in : Option (List ℕ) → List ℕ → NamedType
type_in root name = file_type name (root_for root name)

-- the plain form of a document type
abbrev pub type_of : DocumentType → NamedType
type_of Strict = strict_type
type_of Mini = mini_type
type_of (File name root) = type_in (option_map (λ folder. folder.now) root) (normal name.now)

-- the document type that the word names: `strict`, `mini`, or else that of the file whose name it is, with the folder that is
-- given for its root, if one is
abbrev pub named_type : Option (List ℕ) → List ℕ → NamedType
named_type root word = if bytes_eq word (codes "strict") then strict_type else
    (if bytes_eq word (codes "mini") then mini_type else type_in root (normal word))

-- the document type has this table, where the source of files tells this
abbrev pub HasTable : Content → NamedType → Table → Type 0
HasTable content strict_type table = IsStrict strict_bytes table
HasTable content mini_type table = table ≡ mini_table
HasTable content (file_type name root) table = DtdSpells content root name table

-- it stands in the program
abbrev pub IsBuiltIn : NamedType → Type 0
IsBuiltIn strict_type = ⊤
IsBuiltIn mini_type = ⊤
IsBuiltIn (file_type name root) = ⊥

-- the names inside of its root that its text asks for, and that of its file, are told of
abbrev pub NamesAreTold : Content → NamedType → Type 0
NamesAreTold content strict_type = ⊤
NamesAreTold content mini_type = ⊤
NamesAreTold content (file_type name root) = AreTold content root name

-- and what they hold is within the limit of a file
abbrev pub NamesAreShort : Content → NamedType → Type 0
NamesAreShort content strict_type = ⊤
NamesAreShort content mini_type = ⊤
NamesAreShort content (file_type name root) = AreShort content root name

-- a limit on its text or its declarations is passed, by this count
abbrev pub IsTooLarge : Content → NamedType → ℕ → Type 0
IsTooLarge content strict_type count = PassesLimit (only_file strict_bytes) file_root file_name count
IsTooLarge content mini_type count = ⊥
IsTooLarge content (file_type name root) count = PassesLimit content root name count

-- why the file of a definition has none, where names that lead out of its root are refused
abbrev pub IsFileCause : SourceCall → NamedType → DtdRefusal → Type 0
IsFileCause call named refusal = (name : List ℕ) × ((root : List ℕ) × (named ≡ file_type name root) × IsCause call root name refusal)

-- why the built-in text has no table
abbrev pub IsBuiltInCause : NamedType → DtdRefusal → Type 0
IsBuiltInCause named refusal = (named ≡ strict_type) × IsRefused strict_bytes refusal

-- a document type has no definition, for this reason; no count rises but that of the reason
abbrev pub IsDefinitionRefusal : SourceCall → NamedType → DefinitionRefusal → Type 0
IsDefinitionRefusal call named (refusal.File fault) = IsFileCause call named fault
IsDefinitionRefusal call named (refusal.BuiltIn fault) = IsBuiltInCause named fault × IsCalm call
IsDefinitionRefusal call named refusal.Memory = IsCalm call
