-- How much a sink in memory takes.
use Rattle.std.specs.Prelude.{◌-◌, ℕ, List, take, Option, None, Some}

-- what fits of the bytes, where so many are held already: all of them, or those for which there is room
abbrev pub fitting : Option ℕ → ℕ → List ℕ → List ℕ
fitting None held bytes = bytes
fitting (Some room) held bytes = take (room - held) bytes
