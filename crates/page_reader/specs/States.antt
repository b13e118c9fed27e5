-- What the reader does from byte to byte: as the narrowed reader of page_narrowing, but that it goes on where it has failed.
use Rattle.std.specs.Prelude.{ℕ, List, Option, Some, None}
use Rattle.text_base.specs.declared.page_token.PageToken.{PageToken}
use Rattle.dtd_model.specs.Table.{Table}
use Rattle.character_steps.specs.Encoded.{Held, at_state}
use Rattle.page_steps.specs.PageSteps.{PageState}
use Rattle.page_model.specs.Fronts.{nothing}
use Rattle.page_model.specs.Places.{Place, at_beginning}
use Rattle.page_narrowing.specs.Passing.{narrow_reader}
use Rattle.byte_readers.specs.Mirrors.{state_behind, put_at, put_last}
use Rattle.open_pieces.specs.Views.{plain_held}
use Rattle.state_codes.specs.Codes.{coded_held}
use Rattle.page_reader.specs.declared.state.ReaderState.{ReaderState}
use Rattle.page_reader.specs.declared.state.ReaderState.TheVariants.{Failed, Reading}

-- the state of the definition; none where the reader has failed
abbrev pub seen : ReaderState → Option (Held PageState)
seen Failed = None
seen (Reading h) = Some (plain_held h)

-- the state in memory that stands for it
abbrev pub coded : Option (Held PageState) → ReaderState
coded None = Failed
coded (Some h) = Reading (coded_held h)

-- where a piece begins, and before a page
abbrev pub state_at : Place → ReaderState
state_at place = coded (Some (at_state (record { place = place; inside = nothing })))

-- before a page
abbrev pub first_state : ReaderState
first_state = state_at at_beginning

-- behind a byte
abbrev pub next_state : Table → ReaderState → ℕ → ReaderState
next_state table s b = coded (state_behind (narrow_reader table) (seen s) b)

-- what is put out at a byte, and at the end of the page
abbrev pub tokens_at : Table → ReaderState → ℕ → List PageToken
tokens_at table s b = put_at (narrow_reader table) (seen s) b

-- what is put out at the end of the page
abbrev pub tokens_behind : Table → ReaderState → List PageToken
tokens_behind table s = put_last (narrow_reader table) (seen s)
