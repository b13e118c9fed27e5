-- Which sets are asked for: of aspects by keys that are told apart; and where one speaks of all members of a version, or of what is printed
-- of it, some point reads a slot that has the version there.
use Rattle.std.specs.Prelude.{◌≡◌, ⊤, ℕ, List, Some, slice_get}
use Rattle.plain_values.specs.Plain.{PlainKey}
use Rattle.flow_code.specs.Points.{PlainFlow}
use Rattle.loose_sets.specs.Keys.{told_keys}
use Rattle.loose_sets.specs.Exact.{ReadsSlot}
use Rattle.loose_sets.specs.Uses.{At}
use Rattle.loose_sets.specs.declared.name.SetVersion.{SetVersion}
use Rattle.loose_sets.specs.declared.name.Aspect.{Aspect}
use Rattle.loose_sets.specs.declared.name.Aspect.TheVariants.{Own, Member, Others, Keys}
use Rattle.loose_sets.specs.declared.name.SetName.{SetName}
use Rattle.loose_sets.specs.declared.name.SetName.TheVariants.{Value, Members, Shown, Result, Input, Output, Joined, Piece, FurtherPiece, FurtherPieces, Out}

-- a member's key stands at its number among those that are told apart
abbrev pub IsAspect : List PlainKey → Aspect → Type 0
IsAspect told (Own h) = ⊤
IsAspect told (Member i h) = (c : PlainKey) × (slice_get told i ≡ Some c)
IsAspect told (Others h) = ⊤
IsAspect told Keys = ⊤

-- some point reads a slot whose version there is this one
pub record ReadsVersion (flow : PlainFlow) (at : At) (v : SetVersion) : Type 0 where
  pub point : ℕ
  pub slot : ℕ
  pub read : ReadsSlot flow point slot
  pub it : at point slot ≡ v

-- the set is asked for; those of a value itself and those without a version are always
unfoldable pub IsUsed : PlainFlow → At → SetName → Type 0
IsUsed flow at (Value b v) = IsAspect (told_keys flow) b
IsUsed flow at (Members h v) = ReadsVersion flow at v
IsUsed flow at (Shown v) = ReadsVersion flow at v
IsUsed flow at (Result b n) = IsAspect (told_keys flow) b
IsUsed flow at (Input p) = ⊤
IsUsed flow at (Output p) = ⊤
IsUsed flow at (Joined p i) = ⊤
IsUsed flow at (Piece p) = ⊤
IsUsed flow at (FurtherPiece p) = ⊤
IsUsed flow at (FurtherPieces p) = ⊤
IsUsed flow at (Out p l) = ⊤
