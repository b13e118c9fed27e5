-- What a table does in a state by a byte, and what it puts out at the end, as lists.
use Rattle.std.specs.Prelude.{◌≡◌, ◌<◌, ◌==◌, ℕ, Bool, All, IsTrue, ◌&&◌, List, [], ◌∷◌, ◌++◌, Option, Some, None, nat_le, nat_lt, slice_get, slice_index, if◌then◌else◌}
use Rattle.std.specs.Option.{ForSome}
use Rattle.fst_core.specs.Fits.{moves_fit}
use Rattle.text_base.specs.declared.byte_range.ByteRange.{ByteRange}
use Rattle.fst_core.specs.declared.out.Out.{Out}
use Rattle.fst_core.specs.declared.moves.TableMove.{TableMove}
use Rattle.fst_core.specs.declared.moves.TableEnd.{TableEnd}
use Rattle.fst_core.specs.declared.moves.Action.{Action}

-- the byte lies in the range
abbrev pub in_range : ByteRange → ℕ → Bool
in_range range byte = nat_le range.lo byte && nat_le byte range.hi

-- the moves of a state by a byte, in turn: where each leads, and what it puts out
abbrev pub choices : List TableMove → ℕ → ℕ → List (ℕ × List Out)
choices [] s byte = []
choices (m ∷ moves) s byte =
    if m.from == s && in_range m.range byte then (m.to, m.out.items) ∷ choices moves s byte else choices moves s byte

-- the outputs of a state at the end of the text, in turn
abbrev pub stops : List TableEnd → ℕ → List (List Out)
stops [] s = []
stops (e ∷ ends) s = if e.state == s then e.out.items ∷ stops ends s else stops ends s

-- the one choice that an action is; no choice where there is none
abbrev pub choice_of : Option Action → List (ℕ × List Out)
choice_of None = []
choice_of (Some action) = (action.to, action.out.items) ∷ []

-- to the moves that were there, one is added by which the state takes each byte of the range to the action
abbrev pub AddsChoice : List TableMove → List TableMove → ℕ → ℕ → ℕ → Option Action → Type 0
AddsChoice old new from lo hi action =
    (s byte : ℕ) → choices new s byte ≡ choices old s byte ++ (if from == s
    && (nat_le lo byte && nat_le byte hi) then choice_of action else [])

-- to the moves that were there, some are added by which the state takes each byte to the action that is named for it, and nothing else
abbrev pub AddsRow : List TableMove → List TableMove → ℕ → List ℕ → List Action → Type 0
AddsRow old new from named actions =
    (s byte : ℕ) → choices new s byte ≡ choices old s byte ++ (if from == s
    && nat_lt byte 256 then choice_of (slice_get actions (slice_index named byte)) else [])

-- if the state and where the action leads are among the states, then the moves fit as they did
abbrev pub FitsChoice : List TableMove → List TableMove → ℕ → Option Action → Type 0
FitsChoice old new from action =
    (states : ℕ) → from < states → ForSome action (λ a. a.to < states) → IsTrue (moves_fit states old) → IsTrue (moves_fit states new)

-- if the state and where the actions lead are among the states, then the moves fit
abbrev pub FitsRow : List TableMove → ℕ → List Action → Type 0
FitsRow moves from actions = (states : ℕ) → from < states → All (λ a. a.to < states) actions → IsTrue (moves_fit states moves)
