-- Writes by a path in the order of the code, which knows beforehand whether the value fits the limit of depth. No promise is read off from
-- here.
use Rattle.std.specs.Prelude.{◌≡◌, Bool, if◌then◌else◌, List, [], ◌∷◌, Option, Result, Ok, Err}
use Rattle.plain_values.specs.Plain.{Plain, PlainKey, Pairs}
use Rattle.plain_values.specs.Members.{member}
use Rattle.plain_values.specs.Paths.{container, put_back, change_in}
use Rattle.plain_values.specs.declared.fault.Fault.{Fault}
use Rattle.plain_values.specs.declared.fault.Fault.TheVariants.{Long}

-- the value written at the end of the path; where it does not fit the limit of depth, the fault is met at the end of the path
abbrev pub write_if : Bool → List (Option PlainKey) → Plain → Plain → Result Plain Fault
write_if fits [] new old = if fits then Ok new else Err Long
write_if fits (s ∷ ss) new old = change_in (write_if fits ss new) s (container old)

-- each write by the path gives the same as before
abbrev pub KeepsWrites : List (Option PlainKey) → Plain → Plain → Type 0
KeepsWrites path old new = (fits : Bool) (v : Plain) → write_if fits path v new ≡ write_if fits path v old

-- a write by the path in the member under this key comes to the same array from either of the two
abbrev pub KeepsMember : PlainKey → List (Option PlainKey) → Pairs → Pairs → Type 0
KeepsMember k path old new = (fits : Bool) (v : Plain)
    → put_back new k (write_if fits path v (member new k)) ≡ put_back old k (write_if fits path v (member old k))
