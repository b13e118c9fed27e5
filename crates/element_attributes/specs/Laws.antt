-- The law of the attributes of an element, as a statement.
use Rattle.std.specs.Prelude.{◌≡◌, ◌↔◌, ℕ, true, List, []}
use Rattle.std.specs.List.{list_all}
use Rattle.dtd_model.specs.Lawful.{is_lawful_kind}
use Rattle.dtd_model.specs.Table.{Declared}
use Rattle.page_model.specs.Attributes.{attributes_fit}
use Rattle.page_model.specs.Parts.{Attribute, AreAttributes}
use Rattle.page_steps.specs.TagSteps.{of_element, are_all}
use Rattle.attribute_steps.specs.Among.{AllMay, names_behind}

-- as page_model asks
pub record Fit (entities : List (List ℕ)) (tag_name : List ℕ) (rules : List Declared) (attributes : List Attribute) : Type 0 where
  pub are : AreAttributes attributes
  pub fit : attributes_fit entities tag_name rules attributes ≡ true

-- as they are read in turn
pub record InTurn (entities : List (List ℕ)) (tag_name : List ℕ) (rules : List Declared) (attributes : List Attribute) : Type 0 where
  pub may : AllMay (of_element entities rules) [] attributes
  pub all : are_all tag_name rules (names_behind (of_element entities rules) [] attributes) ≡ true

-- attributes are as the definition asks exactly where they are read in turn and none that has to stand is missing
abbrev pub AttributesMay : Type 0
AttributesMay = (entities : List (List ℕ)) (tag_name : List ℕ) (rules : List Declared) (attributes : List Attribute)
    → list_all (λ (d : Declared). is_lawful_kind d.kind) rules ≡ true
    → Fit entities tag_name rules attributes ↔ InTurn entities tag_name rules attributes
