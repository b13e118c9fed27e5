-- Names that are put behind others, each where it is new.
use Rattle.std.specs.Prelude.{Bool, true, false, if◌then◌else◌, List, [], ◌∷◌, ◌++◌, bytes_eq}
use Rattle.flow_code.specs.Variables.{Name}

-- whether the name is among these
unfoldable pub has : Name → List Name → Bool
has x [] = false
has x (y ∷ ys) = if bytes_eq x y then true else has x ys

-- the names as they are where it is known, and else with it at the end
abbrev pub with_name : Bool → List Name → Name → List Name
with_name true known x = known
with_name false known x = known ++ x ∷ []

-- the names with one more at the end, where it is new
unfoldable pub put : List Name → Name → List Name
unfolding has
put known x = with_name (has x known) known x

-- the names with others behind them in their order, each where it is new
unfoldable pub added : List Name → List Name → List Name
unfolding put
added known [] = known
added known (x ∷ xs) = added (put known x) xs
