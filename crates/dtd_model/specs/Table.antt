-- A document type definition as plain lists: what is declared, with no vectors and no boxes.
use Rattle.std.specs.Prelude.{ℕ, List, [], ◌∷◌, map}
use Rattle.text_base.specs.declared.numbers.Elem.{Elem}
use Rattle.dtd_model.specs.declared.dtd.ElementRule.{ElementRule}
use Rattle.dtd_model.specs.declared.dtd.Content.{Content}
use Rattle.dtd_model.specs.declared.dtd.Content.TheVariants.{Empty, Any, Mixed, Children}
use Rattle.dtd_model.specs.declared.dtd.Particle.{Particle, One, Seq', Alt', Opt', Star', Plus', Row_of-Particle, end_of-Particle, more_of-Particle}
use Rattle.dtd_model.specs.declared.dtd.AttrRule.{AttrRule}
use Rattle.dtd_model.specs.declared.dtd.AttrKind.{AttrKind}
use Rattle.dtd_model.specs.declared.dtd.AttrKind.TheVariants.{Cdata, Id, Idref, Idrefs, Nmtoken, Nmtokens, Choice}
use Rattle.dtd_model.specs.declared.dtd.Need.{Need}
use Rattle.dtd_model.specs.declared.dtd.Need.TheVariants.{Implied, Required, Default, Fixed}
use Rattle.dtd_model.specs.declared.dtd.DoctypeRule.{DoctypeRule}

-- a content particle (XML 1.0, 3.2.1); an element is named by its place among the declared ones
mutual
  -- one element, some particles in sequence, a choice among some, or one with `?`, `*` or `+` behind it
  pub data Model : Type 0 where
    one : ℕ → Model
    sequence : Models → Model
    choice : Models → Model
    optional : Model → Model
    any_number : Model → Model
    at_least_one : Model → Model

  -- particles in their order
  pub data Models : Type 0 where
    no_models : Models
    more_models : Model → Models → Models

-- what an element may hold (XML 1.0, 3.2)
pub data Holding : Type 0 where
  nothing : Holding
  anything : Holding
  text_and : List ℕ → Holding
  children : Model → Holding

-- the type of an attribute (XML 1.0, 3.3.1)
pub data Kind : Type 0 where
  cdata : Kind
  id : Kind
  idref : Kind
  idrefs : Kind
  nmtoken : Kind
  nmtokens : Kind
  one_of : List (List ℕ) → Kind

-- the default of an attribute (XML 1.0, 3.3.2)
pub data Presence : Type 0 where
  implied : Presence
  required : Presence
  with_default : Presence
  fixed : List ℕ → Presence

-- the declaration of an attribute
pub record Declared : Type 0 where
  pub name : List ℕ
  pub kind : Kind
  pub presence : Presence

-- the declaration of an element, with its attributes
pub record Rule : Type 0 where
  pub name : List ℕ
  pub holding : Holding
  pub attributes : List Declared

-- what is declared
pub record Table : Type 0 where
  pub elements : List Rule
  pub entities : List (List ℕ)
  pub doctype : DoctypeRule

-- the particle of the code
unfoldable mutual
  -- the same particle as plain data, with its parts in their order
  pub model_of : Particle → Model
  model_of (One e) = one e.0
  model_of (Seq' shape parts) = sequence (models_of parts)
  model_of (Alt' shape parts) = choice (models_of parts)
  model_of (Opt' p a) = optional (model_of a)
  model_of (Star' p a) = any_number (model_of a)
  model_of (Plus' p a) = at_least_one (model_of a)

  -- the particles of a row, in their order
  pub models_of : {n : _} → Row_of-Particle n → Models
  models_of end_of-Particle = no_models
  models_of (more_of-Particle a rest) = more_models (model_of a) (models_of rest)

-- the particles of a vector
abbrev pub models_in : List Particle → Models
models_in [] = no_models
models_in (a ∷ rest) = more_models (model_of a) (models_in rest)

-- what an element may hold, by the code's declaration: `EMPTY`, `ANY`, mixed content with its elements, or children
abbrev pub holding_of : Content → Holding
holding_of Empty = nothing
holding_of Any = anything
holding_of (Mixed es) = text_and (map (λ (e : Elem). e.0) es.items)
holding_of (Children particle) = children (model_of particle)

-- the type of an attribute, by the code's declaration; a choice has its tokens in their order
abbrev pub kind_of : AttrKind → Kind
kind_of Cdata = cdata
kind_of Id = id
kind_of Idref = idref
kind_of Idrefs = idrefs
kind_of Nmtoken = nmtoken
kind_of Nmtokens = nmtokens
kind_of (Choice tokens) = one_of tokens.items

-- the default of an attribute, by the code's declaration: `#IMPLIED`, `#REQUIRED`, a default value, or a `#FIXED` one
abbrev pub presence_of : Need → Presence
presence_of Implied = implied
presence_of Required = required
presence_of Default = with_default
presence_of (Fixed value) = fixed value

-- the code's declaration of an attribute, as plain data
abbrev pub declared_of : AttrRule → Declared
declared_of rule = record { name = rule.name; kind = kind_of rule.kind; presence = presence_of rule.need }

-- the code's declaration of an element, as plain data, with its attributes in their order
abbrev pub rule_of : ElementRule → Rule
rule_of rule = record { name = rule.name; holding = holding_of rule.content; attributes = map declared_of rule.attributes.items }
