-- What the work on rules keeps.
use Rattle.std.specs.Prelude.{◌≡◌, ◌<◌, ◌↔◌, ℕ, Bool, List, length, Some, slice_get, Contains}
use Rattle.std.specs.List.{All}
use Rattle.numbered_sets.specs.Numbers.{Keeps}
use Rattle.useful_nonterminals.specs.declared.rule.Rule.{Rule}
use Rattle.useful_nonterminals.specs.Follows.{Follows, IsMarked}

-- the marked numbers are those that are listed
abbrev pub IsNoted : List Bool → List ℕ → Type 0
IsNoted marks order = (n : ℕ) → IsMarked marks n ↔ Contains order n

-- the conclusions of the rules at some places are drawn
pub record Concludes (rules : List Rule) (Asked : ℕ → Type 0) (marks : List Bool) (order : List ℕ) (after : List Bool) (more : List ℕ) :
    Type 0 where
  pub long : length after ≡ length marks
  pub noted : IsNoted after more
  pub keeps : Keeps order more
  pub sound : (facts : List ℕ) → All (Follows facts rules) order → All (Follows facts rules) more
  pub drawn : (place : ℕ) (rule : Rule) → Asked place → slice_get rules place ≡ Some rule → Contains order rule.first
      → Contains order rule.second → Contains more rule.conclusion

-- the places among the first so many of a list
abbrev pub IsAmong : List ℕ → ℕ → ℕ → Type 0
IsAmong places n place = (k : ℕ) × (k < n) × (slice_get places k ≡ Some place)

-- the conclusions of rules whose premises stand among the first so many are listed
abbrev pub AreDrawn : List Rule → List ℕ → ℕ → Type 0
AreDrawn rules order n = (rule : Rule) → Contains rules rule → IsAmong order n rule.first → IsAmong order n rule.second
    → Contains order rule.conclusion

-- all that the work keeps
pub record IsWork (facts : List ℕ) (rules : List Rule) (count : ℕ) (marks : List Bool) (order : List ℕ) (taken : ℕ) : Type 0 where
  pub long : length marks ≡ count
  pub noted : IsNoted marks order
  pub begun : (n : ℕ) → Contains facts n → Contains order n
  pub sound : All (Follows facts rules) order
  pub drawn : AreDrawn rules order taken
