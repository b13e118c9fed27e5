-- Laws of the reader of a page, as statements.
use Rattle.std.specs.Prelude.{◌≡◌, ◌↔◌, ℕ, true, List, Some}
use Rattle.text_base.specs.declared.page_token.PageToken.{PageToken}
use Rattle.dtd_model.specs.Table.{Table}
use Rattle.page_model.specs.PageTokens.{PageTokens}
use Rattle.page_model.specs.Places.{at_beginning}
use Rattle.piece_steps.specs.Readers.{go, all_tokens}
use Rattle.piece_steps.specs.Reads.{Reads}
use Rattle.character_steps.specs.Encoded.{at_state, encoded, ByCharacters}
use Rattle.page_model.specs.Fronts.{nothing}
use Rattle.page_steps.specs.PageSteps.{PageState, page_step, page_reader, is_inside, page_hold, page_language}

-- where a character does not end a piece, one is open behind it
abbrev pub PiecesOpen : Type 0
PiecesOpen = (table : Table) (s g : PageState) (c : ℕ) → page_step table s c ≡ go g → is_inside g.inside ≡ true

-- the reader of a page fails at what is no character of XML, and what is not kept makes no difference to a character of several bytes
abbrev pub ReadByCharacters : Type 0
ReadByCharacters = (table : Table) → ByCharacters (page_reader table) page_hold

-- where a page begins
abbrev pub beginning : PageState
beginning = record { place = at_beginning; inside = nothing }

-- what the reader by bytes puts out over a page
abbrev pub read_tokens : Table → List ℕ → List PageToken
read_tokens table bytes = all_tokens (encoded (page_reader table) page_hold) (Some (at_state beginning)) bytes

-- where the reader reads the pieces of the definition, a page's tokens are what the reader by bytes puts out over it, and no others
abbrev pub TokensByReading : Type 0
TokensByReading = (table : Table) → Reads (page_language table) (page_reader table) → (bytes : List ℕ) (tokens : List PageToken)
    → PageTokens table bytes tokens ↔ (tokens ≡ read_tokens table bytes)
