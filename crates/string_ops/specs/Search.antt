-- What the states of a search for a pattern do: state `base + at` has read `at` bytes of the pattern.
use Rattle.std.specs.Prelude.{◌≡◌, ◌==◌, ℕ, zero, suc, ◌+◌, ◌-◌, Bool, ◌&&◌, List, [], ◌∷◌, ◌++◌, length, take, map, nat_le, nat_lt, not, slice_index, if◌then◌else◌}
use Rattle.fst_core.specs.Choices.{choices, stops}
use Rattle.fst_core.specs.declared.out.Out.{Out}
use Rattle.fst_core.specs.declared.out.Out.TheVariants.{Same, Byte}
use Rattle.fst_core.specs.declared.moves.TableMove.{TableMove}
use Rattle.fst_core.specs.declared.moves.TableEnd.{TableEnd}
use Rattle.string_functions.specs.Failure.{next_length}

-- what is read and is part of no occurrence any more, where `at` bytes of the pattern were read before the byte and `part` after it
abbrev pub let_go : List ℕ → ℕ → ℕ → List Out
let_go pattern at zero = map Byte (take at pattern) ++ Same ∷ []
let_go pattern at (suc part) = map Byte (take (at - part) pattern)

-- where a search goes after a byte, and what it puts out: `full` where the pattern is whole, and else what is let go, if that is shown
abbrev pub turn : List ℕ → ℕ → ℕ × List Out → Bool → ℕ → ℕ → ℕ × List Out
turn pattern base full shown at part =
    if part == length pattern then full else (base + part, if shown then let_go pattern at part else [])

-- what the state does by a byte
abbrev pub turn_by : List ℕ → ℕ → ℕ × List Out → Bool → ℕ → ℕ → ℕ × List Out
turn_by pattern base full shown at byte = turn pattern base full shown at (next_length pattern at byte)

-- the state is one of `count` states from `base` on
abbrev pub is_within : ℕ → ℕ → ℕ → Bool
is_within base count s = nat_le base s && nat_lt s (base + count)

-- one choice of one state by one byte is added, if any of the pattern is read after it
abbrev pub AddsTurn : List TableMove → List TableMove → ℕ → ℕ → ℕ → ℕ × List Out → Type 0
AddsTurn old new from own part choice =
    (s byte : ℕ) → choices new s byte ≡ choices old s byte ++ (if from == s
    && ((nat_le own byte && nat_le byte own) && not (part == 0)) then choice ∷ [] else [])

-- one choice of one state is added by each byte after which nothing of the pattern is read
abbrev pub AddsFirst : List TableMove → List TableMove → ℕ → List ℕ → ℕ × List Out → Type 0
AddsFirst old new from row choice =
    (s byte : ℕ) → choices new s byte ≡ choices old s byte ++ (if from == s && (nat_lt byte 256 && slice_index row byte == 0) then choice
    ∷ [] else [])

-- one choice of one state by each byte is added
abbrev pub AddsTurns : List TableMove → List TableMove → ℕ → (ℕ → ℕ × List Out) → Type 0
AddsTurns old new from by = (s byte : ℕ)
    → choices new s byte ≡ choices old s byte ++ (if from == s && nat_lt byte 256 then by byte ∷ [] else [])

-- the states of a search are added
abbrev pub AddsSearch : List TableMove → List TableMove → ℕ → ℕ → (ℕ → ℕ → ℕ × List Out) → Type 0
AddsSearch old new base count by =
    (s byte : ℕ) → choices new s byte ≡ choices old s byte ++ (if is_within base count s && nat_lt byte 256 then by (s - base) byte
    ∷ [] else [])

-- the text may end in these states, and the bytes of the pattern that were read are put out
abbrev pub AddsEnds : List TableEnd → List TableEnd → ℕ → ℕ → List ℕ → Type 0
AddsEnds old new base count pattern =
    (s : ℕ) → stops new s ≡ stops old s ++ (if is_within base count s then map Byte (take (s - base) pattern) ∷ [] else [])

-- the text may end in the state, and nothing is put out
abbrev pub AddsStop : List TableEnd → List TableEnd → ℕ → Type 0
AddsStop old new state = (s : ℕ) → stops new s ≡ stops old s ++ (if state == s then [] ∷ [] else [])

-- the text may end in each of the first states, and nothing is put out
abbrev pub AddsStops : List TableEnd → List TableEnd → ℕ → Type 0
AddsStops old new count = (s : ℕ) → stops new s ≡ stops old s ++ (if is_within 0 count s then [] ∷ [] else [])
