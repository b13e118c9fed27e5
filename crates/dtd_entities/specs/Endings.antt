-- What the end of a declaration of this text comes to.
use Rattle.std.specs.Prelude.{ℕ, List}
use Rattle.std.specs.String.{string_bytes}
use Rattle.dtd_texts.specs.Places.{external, Step, declares_parameter, declares, leaves_out, refuses}
use Rattle.dtd_entities.specs.declared.ended.Ended.{Ended}
use Rattle.dtd_entities.specs.declared.ended.Ended.TheVariants.{Written, Outside, LeftOut, Refused}

-- the step that the end of a declaration with this text is
abbrev pub ended_of : Ended → List ℕ → Step
ended_of Written text = declares text
ended_of (Outside name system) text = declares_parameter name (external (string_bytes system))
ended_of LeftOut text = leaves_out
ended_of Refused text = refuses
