-- When what a declaration says is lawful.
use Rattle.std.specs.Prelude.{◌≡◌, ℕ, true, ◌&&◌, List, length, Some, None}
use Rattle.std.specs.List.{list_all}
use Rattle.xml_text.specs.Names.{is_name}
use Rattle.dtd_model.specs.Table.{Declared}
use Rattle.dtd_model.specs.Lawful.{is_lawful_holding, is_lawful_kind}
use Rattle.dtd_texts.specs.Tables.{Said, element, attributes, declared}

-- an attribute has a name and a lawful type
abbrev pub are_lawful : List Declared → Type 0
are_lawful ds = list_all (λ (d : Declared). is_name d.name && is_lawful_kind d.kind) ds ≡ true

-- what the text of a declaration says, where these elements are declared
abbrev pub IsLawfulSaid : List (List ℕ) → List ℕ → Said → Type 0
IsLawfulSaid names text (element name h) = (declared text ≡ Some name) × (is_name name ≡ true) × (is_lawful_holding (length names) h ≡ true)
IsLawfulSaid names text (attributes name ds) = (declared text ≡ None) × (is_name name ≡ true) × are_lawful ds
