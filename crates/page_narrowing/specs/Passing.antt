-- The reader of pages that fails where no text behind it ends a piece.
use Rattle.std.specs.Prelude.{Bool}
use Rattle.text_base.specs.declared.page_token.PageToken.{PageToken}
use Rattle.dtd_model.specs.Table.{Table}
use Rattle.page_model.specs.Places.{Place}
use Rattle.piece_steps.specs.Readers.{Reader, narrowed}
use Rattle.character_steps.specs.Encoded.{Held, encoded}
use Rattle.page_steps.specs.PageSteps.{PageState, page_reader, page_hold}
use Rattle.page_endings.specs.Ending.{can_end}

-- the test: some text behind it ends a piece
abbrev pub passes : Table → Held PageState → Bool
passes table h = can_end table h

-- the reader of pages by bytes that fails at each state that does not pass
abbrev pub narrow_reader : Table → Reader Place PageToken (Held PageState)
narrow_reader table = narrowed (passes table) (encoded (page_reader table) page_hold)
