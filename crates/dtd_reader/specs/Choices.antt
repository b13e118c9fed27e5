-- Attributes that are a choice of too many values.
use Rattle.std.specs.Prelude.{◌≡◌, ◌⊎◌, ◌+◌, ℕ, Bool, true, nat_lt, List, length}
use Rattle.std.specs.List.{list_any}
use Rattle.dtd_model.specs.Table.{Kind, cdata, id, idref, idrefs, nmtoken, nmtokens, one_of, Declared, Rule}
use Rattle.dtd_texts.specs.Reading.{Written}
use Rattle.dtd_texts.specs.Spells.{Says}
use Rattle.dtd_texts.specs.Tables.{Said, rules_of}
use Rattle.dtd_tables.specs.Causes.{IsTooMany}
use Rattle.dtd_reader.specs.declared.limits.TheConstants.{VALUE_LIMIT}

-- how many values an attribute of this type is a choice of (XML 1.0, 3.3.1, Enumeration)
abbrev pub value_count : Kind → ℕ
value_count cdata = 0
value_count id = 0
value_count idref = 0
value_count idrefs = 0
value_count nmtoken = 0
value_count nmtokens = 0
value_count (one_of tokens) = length tokens

-- the attribute is a choice of more values than a definition may give it
abbrev pub is_large : Declared → Bool
is_large one = nat_lt VALUE_LIMIT (value_count one.kind)

-- an element has such an attribute
abbrev pub have_large : List Rule → Bool
have_large rules = list_any (λ (rule : Rule). list_any is_large rule.attributes) rules

-- the declarations give an element such an attribute
pub record HasLargeChoice (written : List Written) : Type 0 where
  pub says : List Said
  pub said : Says written says
  pub large : have_large (rules_of says says) ≡ true

-- there are so many elements, open brackets, attributes of an element, or values of an attribute, or more, and these are too many
abbrev pub IsOverTable : List Written → ℕ → Type 0
IsOverTable written count = IsTooMany written count ⊎ ((count ≡ VALUE_LIMIT + 1) × HasLargeChoice written)
