-- How a table is written from a plan: what is added for each state, turn and byte.
use Rattle.std.specs.Prelude.{◌≡◌, ℕ, ◌<◌, ◌≤◌, ◌&&◌, nat_lt, List, [], ◌++◌, ◌==◌, length, Option, None, Some, All, slice_get, slice_index, option_to_list, if◌then◌else◌}
use Rattle.fst_core.specs.declared.out.Out.{Out}
use Rattle.fst_core.specs.declared.moves.Action.{Action}
use Rattle.fst_core.specs.declared.moves.TableMove.{TableMove}
use Rattle.fst_core.specs.declared.table.Table.{Table}
use Rattle.fst_core.specs.Choices.{choices, stops}
use Rattle.string_ops.specs.Listed.{Rows, Lasts}

-- where an action goes and what it puts out
abbrev pub choice_in : Option Action → Option (ℕ × List Out)
choice_in None = None
choice_in (Some action) = Some (action.to, action.out.items)

-- the actions of one turn of a state: what is named for each byte is what is written down for it
pub record IsRow (named : List ℕ) (actions : List Action) (states : ℕ) (row : ℕ → Option (ℕ × List Out)) : Type 0 where
  pub bytes : length named ≡ 256
  pub to : All (λ action. action.to < states) actions
  pub says : (byte : ℕ) → byte < 256 → choice_in (slice_get actions (slice_index named byte)) ≡ row byte

-- some actions are put behind the others
abbrev pub Extends : List Action → List Action → Type 0
Extends old new = (more : List Action) × (new ≡ old ++ more) × (length more ≤ 1)

-- the place names what is written down; the place 256 names nothing
abbrev pub Names : List Action → ℕ → Option (ℕ × List Out) → Type 0
Names actions place None = place ≡ 256
Names actions place (Some choice) = choice_in (slice_get actions place) ≡ Some choice

-- each of the actions leads to a state below the number
abbrev pub LeadBelow : ℕ → List Action → Type 0
LeadBelow states actions = All (λ action. action.to < states) actions

-- to what a table does, one state's choices at one turn are added
abbrev pub AddsTurn : List TableMove → List TableMove → ℕ → (ℕ → Option (ℕ × List Out)) → Type 0
AddsTurn old new from row = (s byte : ℕ)
    → choices new s byte ≡ choices old s byte ++ (if from == s && nat_lt byte 256 then option_to_list (row byte) else [])

-- to what a table does, all that one state does is added
pub record AddsState (old new : Table) (from : ℕ) (row : ℕ → List (ℕ × List Out)) (lasts : List (List Out)) : Type 0 where
  pub all : new.states ≡ old.states
  pub first : new.start ≡ old.start
  pub moves : (s byte : ℕ) → choices new.moves.items s byte ≡ choices old.moves.items s byte
      ++ (if from == s && nat_lt byte 256 then row byte else [])
  pub ends : (s : ℕ) → stops new.ends.items s ≡ stops old.ends.items s ++ (if from == s then lasts else [])

-- what is written down for the states below a number, and nothing for the others
abbrev pub rows_below : ℕ → Rows → Rows
rows_below states rows s byte = if nat_lt s states then rows s byte else []

-- how the states below a number may end, as it is written down, and no end for the others
abbrev pub lasts_below : ℕ → Lasts → Lasts
lasts_below states lasts s = if nat_lt s states then lasts s else []
