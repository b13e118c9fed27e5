-- Sums that speak of the states of an automaton alone, and not of nothing.
use Rattle.std.specs.Prelude.{◌≡◌, ℕ, ◌<◌, Bool, true, List, [], ◌∷◌, Option, Some, None, length}
use Rattle.tag_sums.specs.Sum.{Sum, broken, reduced, some_move, some_state}

-- each of these is a state below the number
abbrev pub AreStates : ℕ → List ℕ → Type 0
AreStates n [] = Unit {0}
AreStates n (q ∷ qs) = (q < n) × AreStates n qs

-- each entry of the map that leads somewhere leads to a state below the number
abbrev pub LeadBelow : ℕ → List (Option ℕ) → Type 0
LeadBelow n [] = Unit {0}
LeadBelow n (None ∷ m) = LeadBelow n m
LeadBelow n (Some q ∷ m) = (q < n) × LeadBelow n m

-- each of these sets has an entry for each of so many states, and is not empty
abbrev pub AreSets : ℕ → List (List Bool) → Type 0
AreSets n [] = Unit {0}
AreSets n (s ∷ ss) = (length s ≡ n) × (some_state s ≡ true) × AreSets n ss

-- so many states; no set is empty, and the map leads somewhere
abbrev pub Fits : ℕ → Sum → Type 0
Fits n broken = Unit {0}
Fits n (reduced cs m os) = AreSets n cs × (length m ≡ n) × (some_move m ≡ true) × LeadBelow n m × AreStates n os
