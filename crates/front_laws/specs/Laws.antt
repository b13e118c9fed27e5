-- What the front of a page tells of the state that the reader which fails at once is in behind it, as statements.
use Rattle.std.specs.Prelude.{◌≡◌, ℕ, List, Option, Some, None}
use Rattle.dtd_model.specs.Table.{Table}
use Rattle.page_model.specs.Places.{Place}
use Rattle.piece_steps.specs.Readers.{state_after}
use Rattle.character_steps.specs.Encoded.{Held, at_state}
use Rattle.page_model.specs.Fronts.{Open, bad, front, HasFront}
use Rattle.page_steps.specs.PageSteps.{PageState}
use Rattle.page_step_laws.specs.Laws.{beginning}
use Rattle.page_reads.specs.Laws.{IsLawfulTable}
use Rattle.page_narrowing.specs.Passing.{narrow_reader}

-- the state of that reader behind a text, if it has not failed
abbrev pub narrow_state : Table → List ℕ → Option (Held PageState)
narrow_state table bytes = state_after (narrow_reader table) (Some (at_state beginning)) bytes

-- what a front names as a state
abbrev pub state_of_front : Place → Open → List ℕ → Held PageState
state_of_front place o begun = record { state = record { place = place; inside = o }; begun = begun }

-- a front that is not bad is the state
abbrev pub FrontsLead : Type 0
FrontsLead = (table : Table) → IsLawfulTable table → (bytes : List ℕ) (place : Place) (o : Open) (begun : List ℕ)
    → HasFront table bytes (front place o begun) → narrow_state table bytes ≡ Some (state_of_front place o begun)

-- so two texts with one front that is not bad lead to one state
abbrev pub SameFronts : Type 0
SameFronts = (table : Table) → IsLawfulTable table → (first second : List ℕ) (place : Place) (o : Open) (begun : List ℕ)
    → HasFront table first (front place o begun) → HasFront table second (front place o begun)
    → narrow_state table first ≡ narrow_state table second

-- and where the reader has failed the front is bad
abbrev pub FailedAreBad : Type 0
FailedAreBad = (table : Table) → IsLawfulTable table → (bytes : List ℕ) → narrow_state table bytes ≡ None → HasFront table bytes bad
