-- Attributes, each by its declaration.
use Rattle.std.proofs.Common.{◌≡◌, ℕ, Bool, true, false, List, [], refl, sym}
use Rattle.xml_text.specs.Names.{is_name}
use Rattle.dtd_model.specs.Lawful.{is_lawful_kind}
use Rattle.dtd_model.specs.References.{is_known}
use Rattle.dtd_model.specs.Table.{Declared}
use Rattle.derivatives.specs.Expressions.{Expr}
use Rattle.derivatives.specs.Derivatives.{when}
use Rattle.page_model.specs.Attributes.{has_kind, has_fixed}
use Rattle.page_model.specs.Parts.{Attribute, attribute_then, IsAttribute, refers_by}
use Rattle.page_forms.specs.Tags.{attribute_form, value_form}
use Rattle.page_forms.proofs.QuotedForms.{IsAttributeOf, MayStand, spells_attribute_of}
use Rattle.page_forms.proofs.Spelling.{Spells, spells_as}
use Rattle.page_forms.proofs.ValueForms.{IsPresent, spells_declared}

-- an attribute that is as declared
pub record IsAttributeBy (entities : List (List ℕ)) (d : Declared) (cs : List ℕ) : Type 0 where
  pub attribute : Attribute
  pub written : IsAttribute attribute
  pub known : refers_by (is_known entities) attribute.value ≡ true
  pub named : d.name ≡ attribute.name
  pub kind : has_kind d.kind attribute.value ≡ true
  pub fixed : has_fixed d.presence attribute.value ≡ true
  pub is : attribute_then attribute [] ≡ cs

abbrev Values : List (List ℕ) → Declared → ℕ → List ℕ → Type 0
Values entities d q = IsPresent entities d.kind d.presence q

may_stand : (entities : List (List ℕ)) (d : Declared) → MayStand (Values entities d)
may_stand entities d = record { quoted = λ q text h v. v.value.quoted; refers = λ q text h v. v.value.refers }

into : (entities : List (List ℕ)) (d : Declared) (cs : List ℕ) → IsAttributeOf d.name (Values entities d) cs → IsAttributeBy entities d cs
into entities d cs k = record {
  attribute = k.attribute;
  written = k.written;
  known = k.value.value.known;
  named = k.named;
  kind = k.value.kind;
  fixed = k.value.fixed;
  is = k.is;
}

from : (entities : List (List ℕ)) (d : Declared) (cs : List ℕ) → IsAttributeBy entities d cs → IsAttributeOf d.name (Values entities d) cs
from entities d cs k = record {
  attribute = k.attribute;
  written = k.written;
  named = k.named;
  value = record { value = record { quoted = k.written.characters; refers = k.written.references; known = k.known }; kind = k.kind; fixed = k.fixed };
  is = k.is;
}

spells_when : (t : Bool) {e : Expr} {L : List ℕ → Type 0} → t ≡ true → Spells e L → Spells (when t e) L
spells_when true h s = s
spells_when false h s = absurd (no h)
  where
    no : false ≡ true → ⊥
    no e = cc

pub spells_attribute : (entities : List (List ℕ)) (d : Declared) → is_name d.name ≡ true → is_lawful_kind d.kind ≡ true → Spells (attribute_form entities d) (IsAttributeBy entities d)
unfolding attribute_form
spells_attribute entities d h l =
    spells_when (is_name d.name) h
    (spells_as (spells_attribute_of d.name h (value_form entities d) (Values entities d) (may_stand entities d) (λ q g. spells_declared entities d l q g)) (into entities d) (from entities d))
