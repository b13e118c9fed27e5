-- Integer literals that machines are made for.
use Rattle.std.specs.Prelude.{◌≡◌, ⊤, ℤ, true, false, Option, Some, None}
use Rattle.flow_code.specs.Builtins.{is_small}

-- there is none, or it is too large
abbrev pub IsNotSmall : Option ℤ → Type 0
IsNotSmall None = ⊤
IsNotSmall (Some z) = is_small z ≡ false

-- this one
abbrev pub IsSmall : Option ℤ → ℤ → Type 0
IsSmall literal z = (literal ≡ Some z) × (is_small z ≡ true)
