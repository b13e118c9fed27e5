-- What is put together of the parts of a file. No public clause cites this.
use Rattle.std.specs.Prelude.{◌≡◌, Bool, true, false, List, [], ◌∷◌, Option, Some, None}
use Rattle.page_policy.specs.Patterns.{Pattern}
use Rattle.page_policy.specs.Machine.{Outer, State, wrong, at, joined}
use Rattle.page_policy.specs.Forms.{IsForm}
use Rattle.page_policy.specs.Views.{Holds}
use Rattle.page_policy.specs.declared.building.Building.{Building}
use Rattle.page_policy.specs.declared.pattern.Pattern.{Pattern as Held}

-- this state is held
abbrev pub HoldsIn : Building → State → Type 0
HoldsIn b s = Holds b.arena b.row b.others b.outer s

-- some state is held
abbrev pub IsHeld : Building → Type 0
IsHeld b = (p : Pattern) × (o : Option Pattern) × (os : List Outer) × HoldsIn b (at p o os)

-- a part was put, and this state is held, or it may not stand there
abbrev pub IsPut : Building → Bool → State → Type 0
IsPut b true s = HoldsIn b s
IsPut b false s = s ≡ wrong

-- the pattern of a whole file, if the state is that of one
abbrev pub IsBuilt : Option Held → State → Type 0
IsBuilt None wrong = Unit {0}
IsBuilt None (at p o []) = ⊥
IsBuilt None (at p o (q ∷ os)) = Unit {0}
IsBuilt (Some r) wrong = ⊥
IsBuilt (Some r) (at p o []) = IsForm r.arena r.root (joined p o)
IsBuilt (Some r) (at p o (q ∷ os)) = ⊥
