-- A part of the step of character_steps that the code has as a call.
use Rattle.std.specs.Prelude.{ℕ, if◌then◌else◌, List}
use Rattle.text_base.specs.declared.page_token.PageToken.{PageToken}
use Rattle.page_model.specs.Places.{Place}
use Rattle.piece_steps.specs.Readers.{Move, go, fail}
use Rattle.character_steps.specs.Bytes.{is_begun}
use Rattle.character_steps.specs.Encoded.{Held}
use Rattle.page_steps.specs.PageSteps.{PageState, page_hold}

-- where the bytes are no whole character
abbrev pub held_move : PageState → List ℕ → Move Place PageToken (Held PageState)
held_move s begun = if is_begun begun then go (record { state = page_hold s; begun = begun }) else fail
