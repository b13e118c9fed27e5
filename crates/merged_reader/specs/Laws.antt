-- The reader puts out the tokens of each page.
use Rattle.std.specs.Prelude.{◌<◌, ℕ, List, All}
use Rattle.dtd_model.specs.Table.{Table}
use Rattle.page_model.specs.PageTokens.{PageTokens}
use Rattle.byte_readers.specs.Reading.{tokens_over}
use Rattle.page_reader.specs.States.{first_state, tokens_at, tokens_behind}
use Rattle.merged_reader.specs.States.{merged_next}

-- over each page of bytes, by the definition with this table
abbrev pub IsMergedReaderOf : Table → Type 0
IsMergedReaderOf table = (page : List ℕ) → All (λ byte. byte < 256) page
    → PageTokens table page (tokens_over (merged_next table) (tokens_at table) (tokens_behind table) first_state page)
