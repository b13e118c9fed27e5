-- The front of a page is the state of the reader that fails exactly where no piece can come, as statements.
use Rattle.std.specs.Prelude.{◌≡◌, ℕ, List, Option, Some, None}
use Rattle.dtd_model.specs.Table.{Table}
use Rattle.character_steps.specs.Encoded.{Held}
use Rattle.page_model.specs.Fronts.{Front, bad, front, HasFront}
use Rattle.page_steps.specs.PageSteps.{PageState}
use Rattle.page_reads.specs.Laws.{IsLawfulTable}
use Rattle.front_laws.specs.Laws.{narrow_state, state_of_front}

-- a front as a state: none where it is bad
abbrev pub state_of : Front → Option (Held PageState)
state_of bad = None
state_of (front place o begun) = Some (state_of_front place o begun)

-- the front of a text is the state behind it
abbrev pub FrontsAreStates : Type 0
FrontsAreStates = (table : Table) → IsLawfulTable table → (bytes : List ℕ) (f : Front) → HasFront table bytes f
    → narrow_state table bytes ≡ state_of f

-- so two texts with equal fronts lead to equal states
abbrev pub EqualFronts : Type 0
EqualFronts = (table : Table) → IsLawfulTable table → (first second : List ℕ) (f : Front)
    → HasFront table first f → HasFront table second f → narrow_state table first ≡ narrow_state table second
