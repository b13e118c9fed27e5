-- Where a set belongs.
use Rattle.std.specs.Prelude.{◌≡◌, ℕ, Some}
use Rattle.loose_sets.specs.declared.name.SetName.{SetName}
use Rattle.loose_sets.specs.Table.{point_of}

-- the set belongs to the point
abbrev pub IsAt : SetName → ℕ → Type 0
IsAt name p = point_of name ≡ Some p
