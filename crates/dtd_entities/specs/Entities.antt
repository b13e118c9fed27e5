-- What the code finds in the declaration of an entity.
use Rattle.std.specs.Prelude.{ℕ, Bool, true, false, List, Option, Some, None}
use Rattle.dtd_declarations.specs.TokenViews.{tokens_of}
use Rattle.dtd_texts.specs.Tokens.{Token}
use Rattle.dtd_texts.specs.Places.{Entity, parameter, general, external, Step, declares_parameter, leaves_out, refuses}
use Rattle.dtd_entities.specs.declared.entity.Named.{Named}
use Rattle.dtd_entities.specs.declared.entity.Ending.{Ending}
use Rattle.dtd_entities.specs.declared.entity.Ending.TheVariants.{Declares, LeavesOut, Refuses}

-- the entity of this name, a parameter entity or a general one
abbrev pub entity_by : Bool → List ℕ → Entity
entity_by true name = parameter name
entity_by false name = general name

-- the entity of a declaration, and the tokens behind its name, if it is the declaration of one
abbrev pub named_of : Option Named → Option (Entity × List Token)
named_of None = None
named_of (Some n) = Some (entity_by n.is_parameter n.name.now, tokens_of n.rest.now)

-- the entity of a declaration, if it is the declaration of one
abbrev pub entity_in : Option Named → Option Entity
entity_in None = None
entity_in (Some n) = Some (entity_by n.is_parameter n.name.now)

-- the step that the end of the declaration of an entity is
abbrev pub ending_of : Ending → Step
ending_of (Declares name system) = declares_parameter name.now (external system.now)
ending_of LeavesOut = leaves_out
ending_of Refuses = refuses

-- the entity by whether it is a parameter entity and by its name, if there is one
abbrev pub entity_found : Option (Bool × List ℕ) → Option Entity
entity_found None = None
entity_found (Some found) = Some (entity_by found.0 found.1)
