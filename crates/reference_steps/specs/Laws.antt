-- Laws of references and values, as statements.
use Rattle.std.specs.Prelude.{◌≡◌, ℕ, Bool, true, ◌&&◌, List, []}
use Rattle.std.specs.List.{list_all}
use Rattle.dtd_model.specs.Lawful.{is_lawful_kind}
use Rattle.dtd_model.specs.References.{Reference, is_reference, is_known}
use Rattle.dtd_model.specs.Table.{Declared}
use Rattle.page_model.specs.Attributes.{has_kind, has_fixed}
use Rattle.page_model.specs.Parts.{reference_of, refers_by}
use Rattle.piece_steps.specs.Insides.{accepts}
use Rattle.page_model.specs.OpenValues.{in_entity}
use Rattle.page_steps.specs.ReferenceSteps.{reference_step, reference_good}
use Rattle.page_steps.specs.ValueSteps.{value_start, value_step, value_good, may_stand}

-- a reference that is one, and known
abbrev pub is_right_reference : List (List ℕ) → Reference → Bool
is_right_reference entities r = is_reference r && is_known entities r

-- the steps behind `&` accept exactly the characters of a reference that is known
abbrev pub ReferencesAccepted : Type 0
ReferencesAccepted = (entities : List (List ℕ)) (cs : List ℕ)
    → accepts reference_step (reference_good entities) (in_entity []) cs ≡ is_right_reference entities (reference_of cs)

-- the attribute may have the value, which has no `<` and refers to what is known
abbrev pub may_have : List (List ℕ) → Declared → List ℕ → Bool
may_have entities d value = list_all may_stand value && ((refers_by is_reference value && refers_by (is_known entities) value)
    && (has_kind d.kind value && has_fixed d.presence value))

-- the steps behind the quote accept exactly the values that the attribute may have
abbrev pub ValuesAccepted : Type 0
ValuesAccepted = (entities : List (List ℕ)) (d : Declared) (value : List ℕ) → is_lawful_kind d.kind ≡ true
    → accepts (value_step entities d) (value_good entities d) (value_start d) value ≡ may_have entities d value
