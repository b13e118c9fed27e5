-- What makes it certain what the file of a document type definition declares.
use Rattle.std.specs.Prelude.{◌≡◌, ◌≤◌, ◌⊎◌, ℕ, List, length, Option, Some, ⊤}
use Rattle.text_base.specs.declared.limits.TheConstants.{FILE_LIMIT}
use Rattle.io_edge.specs.Told.{Content, known}
use Rattle.dtd_texts.specs.Spells.{seen_from}
use Rattle.dtd_reader.specs.Causes.{InFile, IsOver, IsAskedFor}
use Rattle.dtd_reader.specs.Choices.{IsOverTable}
use Rattle.dtd_reader.specs.Refusals.{InDeclarations}
use Rattle.dtd_reader.specs.declared.refusal.DtdRefusal.{DtdRefusal}
use Rattle.dtd_reader.specs.declared.refusal.DtdRefusal.TheVariants.{Limit, Memory}

-- the source tells what this name holds
abbrev pub IsToldOf : Content → List ℕ → Type 0
IsToldOf content path = (file : Option (List ℕ)) × (content path ≡ known file)

-- the names inside of this root that the file asks for, and its own, are told of
abbrev pub AreTold : Content → List ℕ → List ℕ → Type 0
AreTold content root name = (path : List ℕ) → IsAskedFor content root name path → IsToldOf content path

-- what they hold is within the limit of a file
abbrev pub AreShort : Content → List ℕ → List ℕ → Type 0
AreShort content root name = (path bytes : List ℕ) → IsAskedFor content root name path → content path ≡ known (Some bytes) → length bytes ≤ FILE_LIMIT

-- there are so many bytes or references in the text, or elements, attributes of an element, values of an attribute or open brackets in
-- its declarations, and these are too many
abbrev pub PassesLimit : Content → List ℕ → List ℕ → ℕ → Type 0
PassesLimit content root name count =
    InFile content name (λ file. IsOver (seen_from root name content) file count) ⊎ InDeclarations content root name (λ written. IsOverTable written count)

-- the refusal is for such a limit, or for want of memory
abbrev pub IsForLimit : Content → List ℕ → List ℕ → DtdRefusal → Type 0
IsForLimit content root name (Limit count) = PassesLimit content root name count
IsForLimit content root name Memory = ⊤
IsForLimit content root name refusal = ⊥
