-- What the front of a page tells of a reader, as statements.
use Rattle.std.specs.Prelude.{◌≡◌, ◌<◌, ℕ, List, [], ◌∷◌, ◌++◌, All}
use Rattle.text_base.specs.declared.page_token.PageToken.{PageToken}
use Rattle.dtd_model.specs.Table.{Table}
use Rattle.page_model.specs.Fronts.{Front, bad, HasFront}
use Rattle.byte_readers.specs.Reading.{tokens_over}
use Rattle.page_reader.specs.States.{first_state}
use Rattle.page_reader.specs.declared.state.ReaderState.{ReaderState}

-- the state behind a text
abbrev pub state_over : {S : Type 0} → (S → ℕ → S) → S → List ℕ → S
state_over next s [] = s
state_over next s (b ∷ bs) = state_over next (next s b) bs

-- two texts with equal fronts lead to one state
abbrev pub LeadsAlike : Table → (ReaderState → ℕ → ReaderState) → Type 0
LeadsAlike table next = (first second : List ℕ) (f : Front) → HasFront table first f → HasFront table second f
    → state_over next first_state first ≡ state_over next first_state second

-- behind a text with a bad front nothing makes a difference to the tokens: one bad one stands for all of it
abbrev pub EndsBad : Table → (ReaderState → ℕ → ReaderState) → (ReaderState → ℕ → List PageToken) → (ReaderState → List PageToken) → Type 0
EndsBad table next puts lasts = (bytes more : List ℕ) → HasFront table bytes bad
    → All (λ byte. byte < 256) bytes → All (λ byte. byte < 256) more
    → tokens_over next puts lasts first_state (bytes ++ more) ≡ tokens_over next puts lasts first_state bytes
