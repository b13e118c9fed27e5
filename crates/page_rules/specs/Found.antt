-- Elements and attributes that are found by their names.
use Rattle.std.specs.Prelude.{◌≡◌, ◌<◌, ℕ, List, length, Option, Some, None, slice_get}
use Rattle.std.specs.Borrow.{Bor}
use Rattle.text_base.specs.declared.numbers.Elem.{Elem}
use Rattle.dtd_model.specs.declared.dtd.AttrRule.{AttrRule}
use Rattle.dtd_model.specs.Table.{Declared, Rule, declared_of}
use Rattle.page_model.specs.Attributes.{find_rule}
use Rattle.page_model.specs.Valid.{place_of}

-- the place of the declaration of an element, and that declaration
abbrev pub IsElement : List Rule → List ℕ → Option Elem → Type 0
IsElement rules name None = find_rule rules name ≡ None
IsElement rules name (Some e) = (e.0 ≡ place_of rules name) × (e.0 < length rules) × (find_rule rules name ≡ slice_get rules e.0)

-- the declaration of an attribute, where there is one
abbrev pub plain_declared : Option (Bor AttrRule) → Option Declared
plain_declared None = None
plain_declared (Some rule) = Some (declared_of rule.now)
