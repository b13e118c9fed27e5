-- Subscripts and items whose parts are values.
use Rattle.std.specs.Prelude.{⊤, Option, Some, None}
use Rattle.plain_values.specs.Plain.{Plain}
use Rattle.plain_values.specs.Lawful.{IsValue}

-- what may be left out is a value of a run where it stands
abbrev pub IsMaybeValue : Option Plain → Type 0
IsMaybeValue None = ⊤
IsMaybeValue (Some v) = IsValue v

-- a key, where one is written, and a value
pub record IsItem (item : Option Plain × Plain) : Type 0 where
  pub key : IsMaybeValue item.0
  pub value : IsValue item.1
